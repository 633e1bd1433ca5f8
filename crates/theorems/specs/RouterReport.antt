-- The report of the taken places, of every router with its 64 places: the word has 64 bits, bit i is set exactly where place i is taken, and the number is
-- how many are taken, which is the number of ones in the word.
use Rattle.std.specs.Prelude.{ℕ, ◌/◌, ◌%◌, ◌^◌, ◌<◌, ◌≤◌, true, false, ◌≡◌, length}
use Rattle.std.proofs.Common.{sym, ap, ◌∙◌}
use Rattle.std.specs.Int.Count.{ones}
use Rattle.places.specs.declared.state.Router.{Router}
use Rattle.places.specs.declared.state.Report.{Report}
use Rattle.octets.specs.Choice.{bit_of}
use Rattle.places.specs.State.{report_of}
use Rattle.places.proofs.WordLaws.{word_small, word_bit, taken_among, count_is, count_small, count_ones}
use Rattle.turn.specs.Outcome.{place_of}

-- bit i of a word
abbrev pub bit : ℕ → ℕ → ℕ
bit word i = word / 2 ^ i % 2

-- 'one 64-bit word, place 0 lowest, and the number of ones'
pub record Reports (r : Router) (report : Report) : Type 0 where
  pub word : report.word < 2 ^ 64
  pub taken : (i : ℕ) → i < 64 → (place_of i r).taken ≡ true → bit report.word i ≡ 1
  pub free : (i : ℕ) → i < 64 → (place_of i r).taken ≡ false → bit report.word i ≡ 0
  pub count : report.count ≡ length (taken_among r.places)
  pub ones_are : report.count ≡ ones report.word
  pub most : report.count ≤ 64

-- the report of a router with its 64 places is the one that the paper asks for
pub router_reports : (r : Router) → length r.places ≡ 64 → Reports r (report_of r.places)
unfolding place_of
router_reports r e =
    record {
      word = rw e at (word_small r.places);
      taken = λ i h t. word_bit r.places i (rw e h) ∙ ap bit_of t;
      free = λ i h f. word_bit r.places i (rw e h) ∙ ap bit_of f;
      count = count_is r.places;
      ones_are = sym (count_ones r.places);
      most = rw e at (count_small r.places);
    }
