-- An event that is found lies within the capture.
use Rattle.std.proofs.Common.{arith, rules}
use Rattle.frame.proofs.Leads.{leads}
use Rattle.listing_code.proofs.event.Listed.put_from.Goals as goal

pub put_event-requires : goal.put_event-requires
put_event-requires c =
    let w = (leads c.args.self.now.direction c.args.self.now.capture.now c.args.from c.in-Some.event c.in-Some.ensures).within in
    (omega (arith, w.starts, w.inside), omega (arith, w.inside), search rules)

pub overflow_add-result : goal.overflow_add-result
overflow_add-result c =
    let w = (leads c.args.self.now.direction c.args.self.now.capture.now c.args.from c.in-Some.event c.in-Some.ensures).within in
    omega (arith, w.starts, w.inside)
