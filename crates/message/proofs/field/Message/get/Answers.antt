-- `get` meets its contract.
use mathlib.Core.Path.{◌≡◌, ◌∙◌}
use borrow.Author.Rules.{rules}
use Rattle.std.specs.Option.{option_map}
use Rattle.octets.specs.Part.{bytes_at}
use Rattle.message.proofs.FieldLaws.{found_value}
use Rattle.message.proofs.field.Message.get.Goals as goal

pub returns : goal.returns
returns c = let m = c.args.self.now in
    let read : option_map (λ v. v.now) c.map.result ≡ option_map (bytes_at m.bytes.now) c.place.result = search rules in
    read ∙ rw c.place.ensures (found_value m.family c.args.kind m.end m.bytes.now)
