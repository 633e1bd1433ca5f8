-- When the premises of one run hold of another; the first three theorems, from the laws of the steps; and that a session which the router holds was opened, which
-- the auditor's question needs.
use Rattle.std.specs.Prelude.{ℕ, ◌<◌, true, ◌≡◌}
use Rattle.std.proofs.Common.{sym, ap, ◌∙◌}
use mathlib.Core.List.{List, [], ◌∷◌, ◌++◌}
use Rattle.places.specs.declared.state.Router.{Router}
use Rattle.turn.specs.Outcome.{place_of}
use Rattle.link.specs.World.{Member, Packet, World, Event, node_of, address_of, run}
use Rattle.link.specs.Premises.{Lent, WasSent, Always, Differ, Premises}
use Rattle.link.specs.Opened.{Holds, Earlier, OpenedAt, Arrived, Accepted, Rests}
use Rattle.link.specs.Can.{Lawful}
use Rattle.link.specs.Inv.{More}
use Rattle.link.specs.DifferLaws.{OfANode, differ_fewer, differ_more}
use Rattle.link.specs.Past.{happened_earlier, happened_map, happened_at, step_grows, AcceptedAfter}
use Rattle.link.specs.GoodLaws.{GoodAt, own_named, node_fine, held_opened, own_of}
use Rattle.link.specs.RouterGoodLaws.{Founded}
use Rattle.link.specs.RunGoodLaws.{good_run, step_founded}

module _ {count : ℕ} where
  -- what holds at every event of a run holds at every event of the run up to any moment
  always_before : (Q : World → Event count → Type 0) (w : World) (later before : List (Event count)) → Always Q w (later ++ before) → Always Q w before
  always_before Q w [] before h = h
  always_before Q w (e ∷ later) before h = always_before Q w later before h.1

  -- what was sent in a run is sent in a longer one
  run_grows : (w : World) (later before : List (Event count)) → More (run w before).sent (run w (later ++ before)).sent
  unfolding run
  run_grows w [] before p m = m
  run_grows w (e ∷ later) before p m = step_grows (run w (later ++ before)) e p (run_grows w later before p m)

  -- premises hold of another run from the same start where those do that speak of the run
  other_run : {mill visitors : List ℕ} {w : World} {es es' : List (Event count)} → Premises count mill visitors w es
      → Always (λ _. Lent mill visitors) w es' → Always WasSent w es' → Differ (run w es').sent → Premises count mill visitors w es'
  other_run p lent came differ =
      record {
        its_nodes = p.its_nodes;
        none_restarted = p.none_restarted;
        addresses_distinct = p.addresses_distinct;
        secret_matching = p.secret_matching;
        passwords_matching = p.passwords_matching;
        books_unchanged = lent;
        only_sent = came;
        checks_differ = differ;
      }

  -- so the premises hold with one event more
  pub longer : {mill visitors : List ℕ} {w : World} {es : List (Event count)} → Premises count mill visitors w es → (e : Event count)
      → Lent mill visitors e → WasSent (run w es) e → Differ (run w (e ∷ es)).sent → Premises count mill visitors w (e ∷ es)
  longer p e lent came differ = other_run p (lent, p.books_unchanged) (came, p.only_sent) differ

  -- and so where at that event one message goes out that no node sent
  pub sends_one : {mill visitors : List ℕ} {w : World} {es : List (Event count)} → Premises count mill visitors w es → (e : Event count)
      → Lent mill visitors e → WasSent (run w es) e → (q : Packet) → (OfANode q → ⊥) → (run w (e ∷ es)).sent ≡ q ∷ (run w es).sent
      → Premises count mill visitors w (e ∷ es)
  sends_one p e lent came q none sent = longer p e lent came (rw sent (differ_more q none p.checks_differ))

  -- the premises hold of the run up to any moment
  pub premises_before : (mill visitors : List ℕ) (w : World) (later before : List (Event count))
      → Premises count mill visitors w (later ++ before) → Premises count mill visitors w before
  premises_before mill visitors w later before p =
      other_run p (always_before (λ _. Lent mill visitors) w later before p.books_unchanged) (always_before WasSent w later before p.only_sent)
      (differ_fewer (run_grows w later before) p.checks_differ)

module _ (law : Lawful) {count : ℕ} (mill visitors : List ℕ) (w : World) where
  -- the invariant holds of a run that meets the premises
  pub good : (es : List (Event count)) → Premises count mill visitors w es → GoodAt mill visitors w es
  good es p = good_run law p es p.books_unchanged p.only_sent p.checks_differ

  -- each session that an event opened has its reason
  why : (e : Event count) (before : List (Event count)) → Premises count mill visitors w (e ∷ before) → Founded w before e
  why e before p =
      let q = premises_before mill visitors w (e ∷ []) before p in
      step_founded law p before (good before q) q.checks_differ e p.books_unchanged.0 p.only_sent.0

  -- a session that a node holds was opened
  pub theorem_a : (es : List (Event count)) → Premises count mill visitors w es → (i : Member count) → (node_of (run w es) i).session.live ≡ true
      → Earlier es (OpenedAt w (address_of w i) (node_of (run w es) i).session.stamp (node_of (run w es) i).session.key)
  theorem_a es p i live = happened_earlier _ es ((node_fine (good es p) i).held live)

  -- one that was opened rests on the server's acceptance
  pub theorem_b : (later : List (Event count)) (e : Event count) (before : List (Event count)) → Premises count mill visitors w (later ++ e ∷ before)
      → (a : List ℕ) (s : ℕ) (k : List ℕ) → OpenedAt w a s k before e → Rests w before a s k
  theorem_b later e before p a s k o =
      let q = premises_before mill visitors w later (e ∷ before) p in
      let r = why e before q a s k o in
      let asked = r.source.asking in
      let h = good before (premises_before mill visitors w (e ∷ []) before q) in
      record {
        node = r.source.node;
        its = r.source.its;
        request = asked.m;
        fields = asked.v;
        stamped = asked.stamped;
        named = own_named (own_of h asked.ask);
        keyed = asked.keyed;
        access = r.access;
        accepted = happened_earlier _ before
            (happened_map (AcceptedAfter w r.source.node asked.m asked.v r.access)
            (λ earlier e.
            Accepted w r.access asked.v.check earlier e
            × Earlier earlier (Arrived w r.source.node asked.m asked.v r.access))
            (λ earlier e h. (h.0, happened_earlier _ earlier h.1)) before r.accepted);
      }

  -- for one address stamps opened only rise
  pub theorem_c : (later : List (Event count)) (e : Event count) (between : List (Event count)) (e₀ : Event count) (before : List (Event count))
      → Premises count mill visitors w (later ++ e ∷ (between ++ e₀ ∷ before)) → (a : List ℕ) (s₀ s : ℕ) (k₀ k : List ℕ)
      → OpenedAt w a s₀ k₀ before e₀ → OpenedAt w a s k (between ++ e₀ ∷ before) e → s₀ < s
  theorem_c later e between e₀ before p a s₀ s k₀ k o₀ o =
      (why e (between ++ e₀ ∷ before) (premises_before mill visitors w later (e ∷ (between ++ e₀ ∷ before)) p) a s k o).under s₀ k₀
      (happened_at (OpenedAt w a s₀ k₀) between e₀ before o₀)

  -- the router holds at most one session for an address
  pub theorem_alone : (es : List (Event count)) → Premises count mill visitors w es → (a : List ℕ) (s s' : ℕ) (k k' : List ℕ)
      → Holds (run w es).router a s k → Holds (run w es).router a s' k' → (s ≡ s') × (k ≡ k')
  theorem_alone es p a s s' k k' h h' =
      let r : Router = (run w es).router in
      let same = (good es p).apart h.place h'.place h.held.taken h'.held.taken (h.held.its ∙ sym h'.held.its) in (
        sym h.held.stamped ∙ ap (λ (j : ℕ). (place_of j r).session.stamp) same ∙ h'.held.stamped,
        sym h.held.keyed ∙ ap (λ (j : ℕ). (place_of j r).session.key) same ∙ h'.held.keyed,
      )

  -- one event opens at most one for an address
  pub theorem_once : (later : List (Event count)) (e : Event count) (before : List (Event count)) → Premises count mill visitors w (later ++ e ∷ before)
      → (a : List ℕ) (s s' : ℕ) (k k' : List ℕ) → OpenedAt w a s k before e → OpenedAt w a s' k' before e → (s ≡ s') × (k ≡ k')
  theorem_once later e before p a s s' k k' o o' =
      theorem_alone (e ∷ before) (premises_before mill visitors w later (e ∷ before) p) a s s' k k' o.held_after o'.held_after

  -- a session that the router holds was opened, and rests on what b says
  pub theorem_held : (es : List (Event count)) → Premises count mill visitors w es → (a : List ℕ) (s : ℕ) (k : List ℕ) → Holds (run w es).router a s k
      → Earlier es (λ before e. OpenedAt w a s k before e × Rests w before a s k)
  theorem_held es p a s k h = go (happened_earlier (OpenedAt w a s k) es (held_opened (good es p) h))
    where
      go : Earlier es (OpenedAt w a s k) → Earlier es (λ before e. OpenedAt w a s k before e × Rests w before a s k)
      go x =
          record {
            later = x.later;
            event = x.event;
            before = x.before;
            place = x.place;
            here = (x.here, theorem_b x.later x.event x.before (rw x.place at p) a s k x.here);
          }
