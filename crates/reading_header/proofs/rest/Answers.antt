-- The frames stored so far and the frames from here on are the header's; a refusal hands back the frames that came in.
use borrow.Author.Rules.{rules}
use Prim.Native.Nat.{◌<◌, ℕ, ◌+◌, ◌-◌}
use Rattle.reading_header.specs.declared.Frame.{Frame}
use Rattle.reading_header.specs.declared.End.{End}
use Rattle.sim0mq.specs.Answer.{Answer}
use native.Mathlib.Omega.{arith}
use mathlib.Core.Path.{◌≡◌, refl, sym, ap, ◌∙◌}
use mathlib.Core.List.{List, map}
use lib.ListN.{length, take, length-set}
use lib.Seq.{take-suc-set}
use Rattle.sim0mq.specs.Field.{after}
use Rattle.sim0mq.specs.Header as H
use Rattle.reading_fields.specs.Items.{fielded}
use Rattle.reading_header.specs.Frames.{counted, header_from, shown, Told, told}
use Rattle.reading_header.proofs.FrameCases.{frames_stop, frames_more, frames_last_stop, frames_last, frames_stored, frames_all, nth_goes, declared_goes}
use Rattle.reading_header.proofs.rest.Goals as goal

abbrev answer : Answer End → List Frame → Told
answer said frames = record { said = said; frames = frames }

pub loop-k-init : goal.loop-k-init
loop-k-init c =
    let frames = c.args.frames in
    let long : 0 < length frames = search rules in (
      ap (λ (l : List Frame). header_from c.args.s.now 6 1 (map shown l) c.args.start) (sym (take-suc-set frames 0 (record { place = 0; code = 9 }) long)),
      search rules,
    )

pub returns-in-Err : goal.returns-in-Err
returns-in-Err c =
    let stopped = sym c.nth.ensures ∙ ap fielded c.in-Err.is in
    c.refused.ensures
    ∙ sym (ap (told c.args.frames) (c.loop-k.invariant.0 ∙ frames_stop _ _ _ _ _ (7 - (c.loop-k.k + 1)) _ _ (omega arith) stopped))

pub overflow_add-at : goal.overflow_add-at
unfolding after
overflow_add-at c = let g = nth_goes _ _ _ _ (sym c.nth.ensures ∙ ap fielded c.in-Ok.is) in omega arith

pub loop-k-preserved : goal.loop-k-preserved
unfolding after
loop-k-preserved c =
    let taken = sym c.nth.ensures ∙ ap fielded c.in-Ok.is in
    let k = c.loop-k.k in
    let fs = c.loop-k.fs in
    let f : Frame = record { place = c.in-Ok.f.place; code = c.in-Ok.f.code } in
    let at : ℕ = c.in-Ok.f.first + c.in-Ok.f.size in (
      c.loop-k.invariant.0
          ∙ frames_more _ _ _ _ _ (7 - (k + 1)) _ (omega arith) taken
          ∙ ap (λ (l : List H.Frame). header_from c.args.s.now (7 - (k + 1)) (k + 1) l at) (frames_stored fs k f (omega arith)),
      length-set fs k f ∙ c.loop-k.invariant.1,
    )

pub overflow_add-result : goal.overflow_add-result
unfolding after
overflow_add-result c = let g = declared_goes _ _ _ (sym c.declared.ensures ∙ ap counted c.in-Ok-declared.is) in omega arith

pub returns-in-Err-declared : goal.returns-in-Err-declared
returns-in-Err-declared c =
    let stopped = sym c.declared.ensures ∙ ap counted c.in-Err-declared.is in
    c.refused-in-Err-declared.ensures
    ∙ sym (ap (told c.args.frames) (c.loop-k.invariant.0 ∙ frames_last_stop _ _ _ _ _ _ _ (omega arith) stopped))

pub returns-in-Ok-declared : goal.returns-in-Ok-declared
unfolding after
returns-in-Ok-declared c =
    let taken = sym c.declared.ensures ∙ ap counted c.in-Ok-declared.is in
    let fs = c.loop-k.fs in
    let at = c.loop-k.at in
    let s = c.args.s.now in
    let seven : c.loop-k.k ≡ 7 = omega arith in
    let f : Frame = record { place = c.in-Ok-declared.c.field.place; code = c.in-Ok-declared.c.field.code } in
    let whole
    =
    c.loop-k.invariant.0
    ∙ ap (λ (j : ℕ). header_from s (7 - j) j (map shown (take j fs)) at) seven
    ∙ frames_last s 7 (map shown (take 7 fs)) at 0 _ _ refl taken in
    sym (ap (told c.args.frames) whole ∙ ap (answer _) (frames_all fs f c.loop-k.invariant.1))
