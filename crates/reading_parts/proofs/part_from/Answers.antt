-- The answer from here is the answer of the whole, and what is kept from here on is what is kept of the whole: outside,
-- from the next field on, or from the next after a run of fields that are alike; inside, from the field's next mark on.
-- No step lacks a byte, so there are no more steps than bytes.
use native.Mathlib.Omega.{arith}
use Prim.Native.Nat.{ℕ, ◌+◌, ◌-◌, ◌<◌}
use mathlib.Core.Path.{◌≡◌, refl, sym, ap, ◌∙◌, subst}
use lib.ListN.{length}
use Rattle.sim0mq.specs.Answer.{fine}
use Rattle.sim0mq.specs.Mark.{marks}
use Rattle.sim0mq.specs.Table.{row_size}
use Rattle.sim0mq.specs.Views.{judged}
use Rattle.reading_heads.specs.Heads.{headed}
use Rattle.reading_runs.proofs.RunLaws.{lead}
use Rattle.sim0mq_marks.proofs.MarkCases.{marks_done, marks_more, marks_stop}
use Rattle.sim0mq_marks.proofs.ByLaws.{mark_by_last}
use Rattle.reading_parts.proofs.PartCases.{mark_goes, head_goes, values_goes, field_head_stop, field-mark-stop, field-values-stop, field-taken, taken-end, field_small, rest_short, rest_start, steps_over, steps_end, steps_stop, steps_more}
use Rattle.reading_parts.proofs.KeptCases.{rows_room, rows_some, kept_short, kept_start, kept_end, kept_stop, kept_more}
use Rattle.reading_parts.proofs.RunCases.{run_goes, run_far, steps_run, kept_run}
use Rattle.reading_parts.proofs.part_from.Goals as goal

pub returns-then-s-from : goal.returns-then-s-from
returns-then-s-from c = record { answer = rw c.refuse.ensures (sym (rest_short _ _ _ c.if-s-from.true), tt); kept = kept_short _ _ _ _ _ _ c.if-s-from.true }

pub fields-init : goal.fields-init
fields-init c =
    (rest_start _ _ _ (omega arith), omega arith, omega arith, kept_start _ _ _ _ _ _ _ c.rows-many.ensures, omega arith, refl, omega arith)

pub keep_run-requires : goal.keep_run-requires
unfolding row_size
keep_run-requires c =
    let asked = c.args in
    let inv = c.fields.invariant in
    let run = lead _ _ _ _ c.run_at-run.ensures in
    let long = inv.5 in
    let room = rows_room (asked.base + length asked.s.now) (length asked.kept.now) in
    let fewer = inv.4 in
    let most = c.ranges.n in
    let rowed = c.rows-many.ensures in
    let all : asked.n - c.fields.left + c.fields.left < 18446744073709551616 = omega arith in
    (omega arith, run_goes _ _ _ _ _ _ _ _ run inv.2 inv.6 all rowed)

pub overflow_sub-left : goal.overflow_sub-left
overflow_sub-left c =
    let run = lead _ _ _ _ c.run_at-run.ensures in
    let most = run.most in
    omega arith

pub overflow_add-steps : goal.overflow_add-steps
overflow_add-steps c =
    let inv = c.fields.invariant in
    let fits = inv.6 in
    let far-enough = run_far _ _ _ _ (lead _ _ _ _ c.run_at-run.ensures) in
    let within = (lead _ _ _ _ c.run_at-run.ensures).within inv.2 in
    let behind = inv.1 in
    omega arith

pub fields-smaller-then-run-gt0 : goal.fields-smaller-then-run-gt0
fields-smaller-then-run-gt0 c =
    let some = c.if-run-gt0.true in
    let most = (lead _ _ _ _ c.run_at-run.ensures).most in
    omega arith

pub fields-preserved-then-run-gt0 : goal.fields-preserved-then-run-gt0
fields-preserved-then-run-gt0 c =
    let run = lead _ _ _ _ c.run_at-run.ensures in
    let inv = c.fields.invariant in
    let most = run.most in
    let fewer = inv.4 in
    let behind = inv.1 in
    let far-enough = run_far _ _ _ _ run in
    let n = c.args.n in
    let left = c.fields.left in
    let fields = c.run_at-run.result.fields in
    let kept = kept_run _ _ _ _ _ _ fields left (left - fields) _ (n - left) (n - (left - fields)) _ _ _ _ inv.3 run.stand run.ends (omega arith) (omega arith) c.keep_run.ensures in
    (inv.0 ∙ steps_run _ 0 _ _ fields left (left - fields) _ _ _ _ run.stand run.ends (omega arith) refl, omega arith, run.within inv.2, kept.0, omega arith, kept.1 ∙ inv.5, inv.6)

pub loop-init : goal.loop-init
loop-init c =
    let h = c.in-Ok.h in
    let g = head_goes _ _ _ (sym c.head.ensures ∙ ap headed c.in-Ok.is) in
    let l = g.0 in
    let m = g.1 in
    let all : h.marked ≡ h.marked - 0 = omega arith in
    (ap (λ (k : ℕ). marks c.args.s.now k h.next) all, omega arith, omega arith)

pub loop-preserved : goal.loop-preserved
loop-preserved c =
    let by_Last = mark_by_last _ _ _ c.lasts-last.ensures in
    let taken = sym by_Last ∙ sym c.mark_by.ensures ∙ ap judged c.in-Ok-mark_by.is in
    let g = mark_goes _ _ _ taken in
    let l = g.0 in
    let m = g.1 in
    (c.loop.invariant.0 ∙ marks_more _ _ _ _ _ (omega arith) taken, omega arith, omega arith)

pub overflow_sub-e : goal.overflow_sub-e
overflow_sub-e c =
    let valued = sym c.values.ensures ∙ ap judged c.in-Ok-values.is in
    let g = (values_goes _ _ _ _ _ valued).0 in
    omega arith

pub keep-requires : goal.keep-requires
unfolding row_size
keep-requires c =
    let headed-as = sym c.head.ensures ∙ ap headed c.in-Ok.is in
    let marked = c.loop.invariant.0 ∙ marks_done _ _ _ (omega arith) in
    let valued = sym c.values.ensures ∙ ap judged c.in-Ok-values.is in
    let accepted = field-taken _ _ _ headed-as _ marked _ valued in
    let args = c.args in
    let many = c.rows-many.ensures in
    let long = c.fields.invariant.5 in
    let room = rows_room (args.base + length args.s.now) (length args.kept.now) in
    (omega arith, λ some. field_small _ _ _ _ (rows_some _ _ (subst (λ (m : ℕ). 0 < m) many some)) (accepted ∙ ap fine (sym c.found.ensures)))

pub overflow_sub-left-in-Ok : goal.overflow_sub-left-in-Ok
overflow_sub-left-in-Ok c =
    let some = c.if-left-eq0.false in
    omega arith

pub overflow_add-steps-in-Ok : goal.overflow_add-steps-in-Ok
overflow_add-steps-in-Ok c =
    let counted = c.loop.invariant.1 in
    let within = c.loop.invariant.2 in
    let fits = c.fields.invariant.6 in
    omega arith

pub overflow_add-steps-in-Ok-2 : goal.overflow_add-steps-in-Ok-2
overflow_add-steps-in-Ok-2 c =
    let counted = c.loop.invariant.1 in
    let within = c.loop.invariant.2 in
    let fits = c.fields.invariant.6 in
    omega arith

pub fields-smaller : goal.fields-smaller
fields-smaller c =
    let some = c.if-left-eq0.false in
    omega arith

pub fields-preserved : goal.fields-preserved
fields-preserved c =
    let headed-as = sym c.head.ensures ∙ ap headed c.in-Ok.is in
    let marked = c.loop.invariant.0 ∙ marks_done _ _ _ (omega arith) in
    let valued = sym c.values.ensures ∙ ap judged c.in-Ok-values.is in
    let accepted = field-taken _ _ _ headed-as _ marked _ valued in
    let ends = taken-end _ _ _ headed-as _ _ valued in
    let inv = c.fields.invariant in
    let g = values_goes _ _ _ _ _ valued in
    let end = g.0 in
    let within = g.1 in
    let counted = c.loop.invariant.1 in
    let n = c.args.n in
    let left = c.fields.left in
    let some = c.if-left-eq0.false in
    let fewer = inv.4 in
    let kept = kept_more _ _ _ _ _ _ _ _ _ inv.3 (left - 1) (n - (left - 1)) _ _ _ _ (omega arith) accepted ends (omega arith) c.found.ensures c.keep.ensures in
    (inv.0 ∙ steps_more _ _ _ _ (left - 1) _ _ _ (omega arith) accepted ends (omega arith), omega arith, omega arith, kept.0, omega arith, kept.1 ∙ inv.5, inv.6)

pub returns-then-at-s : goal.returns-then-at-s
returns-then-at-s c =
    let inv = c.fields.invariant in
    record { answer = rw c.refuse-then-at-s.ensures (sym (inv.0 ∙ steps_over _ _ _ _ c.if-left-eq0.true c.if-at-s.true), tt); kept = kept_end _ _ _ _ _ _ _ _ _ inv.3 c.if-left-eq0.true }

pub returns-else-at-s : goal.returns-else-at-s
returns-else-at-s c =
    let inv = c.fields.invariant in
    record { answer = (sym (inv.0 ∙ steps_end _ _ _ _ c.if-left-eq0.true (omega arith)), omega arith); kept = kept_end _ _ _ _ _ _ _ _ _ inv.3 c.if-left-eq0.true }

pub returns-in-Err : goal.returns-in-Err
returns-in-Err c =
    let stopped = field_head_stop _ _ _ _ (sym c.head.ensures ∙ ap headed c.in-Err.is) in
    let inv = c.fields.invariant in
    record { answer = (sym (inv.0 ∙ steps_stop _ _ _ _ _ _ c.if-left-eq0.false stopped), tt); kept = kept_stop _ _ _ _ _ _ _ _ _ inv.3 _ _ stopped }

pub returns-in-Err-mark_by : goal.returns-in-Err-mark_by
returns-in-Err-mark_by c =
    let headed-as = sym c.head.ensures ∙ ap headed c.in-Ok.is in
    let by_Last = mark_by_last _ _ _ c.lasts-last.ensures in
    let told = sym by_Last ∙ sym c.mark_by.ensures ∙ ap judged c.in-Err-mark_by.is in
    let at_mark = c.loop.invariant.0 ∙ marks_stop _ _ _ _ _ (omega arith) told in
    let stopped = field-mark-stop _ _ _ headed-as _ _ at_mark in
    let inv = c.fields.invariant in
    record { answer = (sym (inv.0 ∙ steps_stop _ _ _ _ _ _ c.if-left-eq0.false stopped), tt); kept = kept_stop _ _ _ _ _ _ _ _ _ inv.3 _ _ stopped }

pub returns-in-Err-values : goal.returns-in-Err-values
returns-in-Err-values c =
    let headed-as = sym c.head.ensures ∙ ap headed c.in-Ok.is in
    let marked = c.loop.invariant.0 ∙ marks_done _ _ _ (omega arith) in
    let stopped = field-values-stop _ _ _ headed-as _ marked _ _ (sym c.values.ensures ∙ ap judged c.in-Err-values.is) in
    let inv = c.fields.invariant in
    record { answer = (sym (inv.0 ∙ steps_stop _ _ _ _ _ _ c.if-left-eq0.false stopped), tt); kept = kept_stop _ _ _ _ _ _ _ _ _ inv.3 _ _ stopped }
