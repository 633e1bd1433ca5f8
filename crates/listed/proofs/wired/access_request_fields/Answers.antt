use Rattle.std.proofs.Common.{append-nil}
use Rattle.listed.specs.Fields.{objects_of}
use Rattle.listed.specs.Wired.{access_request_objects}
use Rattle.listed.proofs.wired.access_request_fields.Goals as goal

pub returns : goal.returns
unfolding access_request_objects
returns c = λ m. rw (append-nil (objects_of m c.groups_field.result), c.optional_field.ensures m, c.given_position.ensures m, c.number_field.ensures m, c.groups_field.ensures m)
