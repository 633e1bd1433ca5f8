-- `fits_one` meets its contract.
use mathlib.Core.Path.{sym, ◌∙◌}
use Rattle.object.specs.Walk.{walk_of, one_of}
use Rattle.message.specs.Reading.{fits_one}
use Rattle.message.proofs.ReadingLaws.{fits_some}
use Rattle.message.proofs.reading.fits_one.Goals as goal

pub returns-in-Some : goal.returns-in-Some
unfolding fits_one
returns-in-Some c = let a = c.args in
    c.fits.ensures
    ∙ sym (fits_some a.f a.kind (one_of a.f a.kind (walk_of a.f a.body.now).items) (sym c.in-Some.is ∙ c.find.ensures))
