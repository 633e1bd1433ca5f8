-- What a line leaves: its two parts.
use Rattle.std.specs.Prelude.{Option}
use mathlib.Core.Path.{◌≡◌}
use Rattle.told.specs.declared.printing.Said.{Said}
use Rattle.hall.specs.declared.state.Hall.{Hall}
use Rattle.hall.specs.declared.state.Stepped.{Stepped}

-- the two parts of what a line leaves
pub both_parts : {h k : Hall} {x y : Option Said} → h ≡ k → x ≡ y → ◌≡◌ {A = Stepped} (record { hall = h; said = x }) (record { hall = k; said = y })
both_parts e f = λ j. record { hall = e j; said = f j }
