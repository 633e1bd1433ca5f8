-- Stored bytes; and what a buffer holds after a change: a buffer that stays, one changed twice, one of another size, one made to hold r.
use Prim.Native.Nat.{ℕ}
use mathlib.Core.List.{List}
use mathlib.Core.Path.{◌≡◌, refl, sym, ap, ◌∙◌}
use lib.ListN.{length}
use Rattle.octets.specs.Numbers.{Bytes}
use Rattle.places.specs.declared.state.Router.{Router}
use Rattle.storedrouter.specs.Router.{router_size, router_from, router_bytes, RouterStored}
use Rattle.storedrouter.proofs.RouterLaws.{RouterHeld, router_length, router_undone}
use Rattle.storedrouter.proofs.LoadedLaws.{router_loaded}
use Rattle.inplace.specs.Change.{Holds}
use Rattle.inplace.proofs.CleanLaws.{Clean, clean_whole, clean_of}

-- bytes that are those of r, and are read as r, are a router's as it is stored
pub stored_again : {r : Router} {s : List ℕ} → s ≡ router_bytes r → router_from s ≡ r → RouterStored s
stored_again e again = e ∙ ap router_bytes (sym again)

-- a buffer that stays
pub holds_same : (s : List ℕ) → Holds s s (router_from s)
holds_same s = record { size = refl; holds = λ _. refl; other = λ _. refl; stored = λ k. k }

-- one change after another
pub holds_then : {s s₁ s₂ : List ℕ} {r₁ r₂ : Router} → length s ≡ router_size → Holds s s₁ r₁ → Holds s₁ s₂ r₂ → Holds s s₂ r₂
holds_then fits h k =
    record {
      size = k.size ∙ h.size;
      holds = λ e. k.holds (h.size ∙ e);
      other = λ n. absurd (n fits);
      stored = λ e. k.stored (stored_again (h.stored e) (h.holds fits));
    }

module _ (s : List ℕ) (b : Bytes s) where
  -- a buffer of another size
  pub holds_other : (r : Router) → (length s ≡ router_size → ⊥) → Holds s s r
  holds_other r h =
      record {
        size = refl;
        holds = λ e. absurd (h e);
        other = λ k. refl;
        stored = λ e. absurd (h (ap length e ∙ router_length (router_from s) (router_loaded s b)));
      }

  -- a buffer of the size of a state that is made to hold r: where every part was as stored, every part is so after
  pub holds_made : (after : List ℕ) (r : Router) → length s ≡ router_size → length after ≡ length s → router_from after ≡ r → (Clean s → Clean after)
      → Holds s after r
  holds_made after r size same e c =
      record {
        size = same;
        holds = λ k. e;
        other = λ h. absurd (h size);
        stored = λ q. clean_whole after (c (clean_of s b q)) ∙ ap router_bytes e;
      }

-- the bytes of any router that the code's types can hold are so
pub stored_so : (q : Router) → RouterHeld q → (s : List ℕ) → s ≡ router_bytes q → RouterStored s
stored_so q h s e = stored_again e (ap router_from e ∙ router_undone q h)
