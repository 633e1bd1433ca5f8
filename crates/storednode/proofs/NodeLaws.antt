-- A node that is stored and loaded again is the same node.
use Rattle.std.specs.Prelude.{Option, Some, None, ℕ}
use Prim.Native.Nat.{◌^◌, ◌<◌}
use mathlib.Core.Bool.{true, false}
use mathlib.Core.List.{[], ◌∷◌}
use mathlib.Core.Path.{◌≡◌, refl, ap, ◌∙◌}
use lib.ListN.{length}
use Rattle.octets.specs.Numbers.{bytes_of}
use Rattle.node.specs.declared.Settings.{Settings}
use Rattle.node.specs.declared.Waiting.{Waiting}
use Rattle.node.specs.declared.Session.{Session}
use Rattle.node.specs.declared.Node.{Node}
use Rattle.laid.specs.Field.{flag_bytes, held_stored, held_from}
use Rattle.laid.specs.Around.{StringHeld, held_length, held_undone}
use Rattle.laid.proofs.FieldLaws.{long_none, long_more, long_flag, long_number, stand_all, stand_next, stand_past, stand_part, stand_array, stand_number, stand_stamped}
use Rattle.storednode.specs.Node.{used_bytes, used_from, waiting_bytes, waiting_from, session_bytes, session_from, settings_bytes, settings_from, node_bytes, node_from, node_size}

-- what the code's types hold
pub record WaitingHeld (w : Waiting) : Type 0 where
  pub stamp : w.stamp < 2 ^ 64
  pub key : length w.key ≡ 16

pub record SessionHeld (v : Session) : Type 0 where
  pub stamp : v.stamp < 2 ^ 64
  pub key : length v.key ≡ 16
  pub since : v.since < 2 ^ 64
  pub lifetime : v.lifetime < 2 ^ 16

pub record SettingsHeld (v : Settings) : Type 0 where
  pub unit : v.unit < 2 ^ 32
  pub patience : v.patience < 2 ^ 32
  pub password : StringHeld v.password
  pub account : StringHeld v.account
  pub kind : v.kind < 2 ^ 16
  pub network : v.network < 2 ^ 16
  pub address : length v.address ≡ 6
  pub router : length v.router ≡ 6

abbrev pub UsedHeld : Option ℕ → Type 0
UsedHeld None = Unit
UsedHeld (Some n) = n < 2 ^ 64

pub record NodeHeld (n : Node) : Type 0 where
  pub settings : SettingsHeld n.settings
  pub clock : n.clock < 2 ^ 64
  pub used : UsedHeld n.used
  pub waiting : WaitingHeld n.waiting
  pub session : SessionHeld n.session

-- how many bytes a used stamp has
used_length : (u : Option ℕ) → length (used_bytes u) ≡ 9
unfolding used_bytes
used_length None = (long_flag false (long_number 8 0 long_none)).is
used_length (Some n) = (long_flag true (long_number 8 n long_none)).is

-- and it is loaded again
used_undone : (u : Option ℕ) → UsedHeld u → used_from (used_bytes u) ≡ u
unfolding used_from used_bytes
used_undone None h = refl
used_undone (Some n) h = ap Some (stand_number 8 n (stand_next (stand_all (flag_bytes true ∷ bytes_of 8 n ∷ [])) 1 refl) h)

module _ (w : Waiting) (h : WaitingHeld w) where
  -- how many bytes it has
  waiting_length : length (waiting_bytes w) ≡ 25
  unfolding waiting_bytes
  waiting_length = (long_flag w.live (long_number 8 w.stamp (long_more w.key 16 h.key long_none))).is

  -- and it is loaded again
  waiting_undone : waiting_from (waiting_bytes w) ≡ w
  unfolding waiting_from waiting_bytes
  waiting_undone =
      let s = stand_stamped {fs = []} w.live w.stamp (stand_all _) h.stamp h.key in
      λ j. record { live = s.flag j; stamp = s.number j; key = s.array j }

module _ (v : Session) (h : SessionHeld v) where
  -- how many bytes it has
  session_length : length (session_bytes v) ≡ 35
  unfolding session_bytes
  session_length =
      (long_flag v.live
      (long_number 8 v.stamp
      (long_more v.key 16 h.key
      (long_number 8 v.since
      (long_number 2 v.lifetime long_none))))).is

  -- and it is loaded again
  session_undone : session_from (session_bytes v) ≡ v
  unfolding session_from session_bytes
  session_undone =
      let s = stand_stamped v.live v.stamp (stand_all _) h.stamp h.key in
      let since = stand_number 8 v.since s.next h.since in
      let lifetime = stand_number {fs = []} 2 v.lifetime (stand_past 8 v.since s.next) h.lifetime in
      λ j. record { live = s.flag j; stamp = s.number j; key = s.array j; since = since j; lifetime = lifetime j }

module _ (v : Settings) (h : SettingsHeld v) where
  -- how many bytes they have
  settings_length : length (settings_bytes v) ≡ 546
  unfolding settings_bytes
  settings_length =
      (long_number 4 v.unit
      (long_number 4 v.patience
      (long_more (held_stored v.password) 261 (held_length v.password h.password)
      (long_more (held_stored v.account) 261 (held_length v.account h.account)
      (long_number 2 v.kind
      (long_number 2 v.network
      (long_more v.address 6 h.address
      (long_more v.router 6 h.router long_none)))))))).is

  -- and they are loaded again
  settings_undone : settings_from (settings_bytes v) ≡ v
  unfolding settings_from settings_bytes
  settings_undone =
      let p = held_length v.password h.password in
      let a = held_length v.account h.account in
      let s₀ = stand_all _ in
      let unit = stand_number 4 v.unit s₀ h.unit in
      let s₁ = stand_past 4 v.unit s₀ in
      let patience = stand_number 4 v.patience s₁ h.patience in
      let s₂ = stand_past 4 v.patience s₁ in
      let password = ap held_from (stand_part s₂ 261 p) ∙ held_undone v.password h.password in
      let s₃ = stand_next s₂ 261 p in
      let account = ap held_from (stand_part s₃ 261 a) ∙ held_undone v.account h.account in
      let s₄ = stand_next s₃ 261 a in
      let kind = stand_number 2 v.kind s₄ h.kind in
      let s₅ = stand_past 2 v.kind s₄ in
      let network = stand_number 2 v.network s₅ h.network in
      let s₆ = stand_past 2 v.network s₅ in
      let address = stand_array s₆ 6 h.address in
      let s₇ = stand_next s₆ 6 h.address in
      let router = stand_array {fs = []} s₇ 6 h.router in
      λ j. record {
        unit = unit j;
        patience = patience j;
        password = password j;
        account = account j;
        kind = kind j;
        network = network j;
        address = address j;
        router = router j;
      }

module _ (n : Node) (h : NodeHeld n) where
  -- how many bytes a node has
  pub node_length : length (node_bytes n) ≡ node_size
  unfolding node_bytes
  node_length =
      (long_more (settings_bytes n.settings) 546 (settings_length n.settings h.settings)
      (long_number 8 n.clock
      (long_more (used_bytes n.used) 9 (used_length n.used)
      (long_more (waiting_bytes n.waiting) 25 (waiting_length n.waiting h.waiting)
      (long_more (session_bytes n.session) 35 (session_length n.session h.session) long_none))))).is

  -- loading undoes storing
  pub node_undone : node_from (node_bytes n) ≡ n
  unfolding node_from node_bytes
  node_undone =
      let v = settings_length n.settings h.settings in
      let u = used_length n.used in
      let w = waiting_length n.waiting h.waiting in
      let o = session_length n.session h.session in
      let s₀ = stand_all _ in
      let settings = ap settings_from (stand_part s₀ 546 v) ∙ settings_undone n.settings h.settings in
      let s₁ = stand_next s₀ 546 v in
      let clock = stand_number 8 n.clock s₁ h.clock in
      let s₂ = stand_past 8 n.clock s₁ in
      let used = ap used_from (stand_part s₂ 9 u) ∙ used_undone n.used h.used in
      let s₃ = stand_next s₂ 9 u in
      let waiting = ap waiting_from (stand_part s₃ 25 w) ∙ waiting_undone n.waiting h.waiting in
      let s₄ = stand_next s₃ 25 w in
      let session = ap session_from (stand_part {fs = []} s₄ 35 o) ∙ session_undone n.session h.session in
      λ j. record { settings = settings j; clock = clock j; used = used j; waiting = waiting j; session = session j }
