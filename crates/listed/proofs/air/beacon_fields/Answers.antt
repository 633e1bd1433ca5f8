use Rattle.listed.specs.Air.{beacon_objects}
use Rattle.listed.proofs.air.beacon_fields.Goals as goal

pub returns : goal.returns
unfolding beacon_objects
returns c = λ m. rw (c.number_field.ensures m, c.position_field.ensures m, c.optional_field.ensures m, c.optional_field-2.ensures m, c.number_field-2.ensures m, c.number_field-3.ensures m, c.uplink_field.ensures m, c.optional_field-3.ensures m)
