-- `try_export` meets its contract where the end is refused, and where it is exported. Assumes nothing.
use Rattle.std.proofs.Common.{refl, ap, ◌∙◌, Err}
use Rattle.std.proofs.lemmas.Result.{err_from_is_err_and}
use Rattle.tables.specs.Machine.{tables}
use Rattle.tables.specs.Look.{end_kind}
use Rattle.rules.specs.Calls.{export}
use Rattle.changes.specs.BelowCeiling.{entry_weight_lem}
use Rattle.quiet.specs.Verdicts.{refused_later, passed_later, passed_sound}
use Rattle.sending.proofs.try_export.Goals as goal

pub returns-in_err-end_refusals : goal.returns-in_err-end_refusals
unfolding export end_kind
returns-in_err-end_refusals c =
    let t = tables c.args.s.now in
    let look = c.see-look.ensures t refl in
    let u = c.use_entry-u.ensures t refl in
    let room = c.room_at-room.ensures t refl refl in
    let first = rw (c.is_sound.ensures, look) at c.in_ok-send_refusals.ensures in
    let end = rw (room, u, look) at c.in_err-end_refusals.ensures in
    let why = err_from_is_err_and _ c.from_residual-in_err-end_refusals.ensures.1 in
    refused_later _ _ _ _ _ first why.1 (ap Err why.2 ∙ end)

pub returns : goal.returns
unfolding export end_kind
returns c =
    let t = tables c.args.s.now in
    let look = c.see-look.ensures t refl in
    let u = c.use_entry-u.ensures t refl in
    let room = c.room_at-room.ensures t refl refl in
    let first = rw (c.is_sound.ensures, look) at c.in_ok-send_refusals.ensures in
    let end = rw (room, u, look) at c.in_ok-end_refusals.ensures in
    let is_sound = passed_sound _ _ first in
    rw (c.export_end.ensures (rw u (entry_weight_lem _ _ is_sound _ _)), room, u, look) (passed_later _ _ _ first end)
