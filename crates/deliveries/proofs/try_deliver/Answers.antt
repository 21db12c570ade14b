-- `try_deliver` meets its contract: its refusals in order, and what the message does. Assumes nothing.
use Rattle.std.proofs.Common.{refl, ap, ◌∙◌, Err}
use Rattle.std.proofs.lemmas.Result.{err_from_is_err_and}
use Rattle.tables.specs.Machine.{tables}
use Rattle.changes.specs.BelowCeiling.{message_weight_lem}
use Rattle.rules.specs.Refusals.{ready}
use Rattle.rules.specs.Deliver.{deliver}
use Rattle.quiet.specs.Verdicts.{refused, passed, passed_sound}
use Rattle.deliveries.proofs.try_deliver.Goals as goal

pub returns-in_err-delivery_refusals : goal.returns-in_err-delivery_refusals
unfolding deliver ready
returns-in_err-delivery_refusals c =
    let m = c.message_at-m.ensures (tables c.args.s.now) refl in
    let lines = rw (c.is_sound.ensures, c.is_ready.ensures, c.read_end-end.ensures, m) at c.in_err-delivery_refusals.ensures in
    let why = err_from_is_err_and _ c.from_residual.ensures.1 in
    refused _ _ _ _ why.1 (ap Err why.2 ∙ lines)

pub returns : goal.returns
unfolding deliver ready
returns c =
    let m = c.message_at-m.ensures (tables c.args.s.now) refl in
    let lines = rw (c.is_sound.ensures, c.is_ready.ensures, c.read_end-end.ensures, m) at c.in_ok-delivery_refusals.ensures in
    let is_sound = passed_sound _ _ lines in
    rw (c.deliver_message.ensures is_sound (rw m (message_weight_lem _ _ is_sound _)) c.read_end-end.ensures, m) (passed _ _ lines)
