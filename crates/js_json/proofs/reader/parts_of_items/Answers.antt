use Rattle.std.proofs.Common.{arith}
use Rattle.js_json.proofs.Jsons.{too_many}
use Rattle.js_json.proofs.reader.parts_of_items.Goals as goal

pub returns-in-len3-up : goal.returns-in-len3-up
returns-in-len3-up c = too_many c.args.items.now.items (omega (arith, c.as_slice.ensures.len))
