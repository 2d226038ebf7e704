-- Another length is another word; and what is not there is no word.
use Prim.Native.Nat.{ℕ}
use mathlib.Core.Path.{◌≡◌, ap, ◌∙◌}
use mathlib.Core.List.{List}
use native.Mathlib.Omega.{arith}
use lib.ListN.{take, drop}
use Rattle.std.specs.Str.{bytes_eq}
use Rattle.commands.proofs.CommandLaws.{word_long, word_past, word_part}
use Rattle.commands.proofs.word.Goals as goal

pub returns-then-size-w : goal.returns-then-size-w
returns-then-size-w c = word_long _ _ _ _ c.if-size-w.true

pub returns-in-None : goal.returns-in-None
returns-in-None c =
    word_past _ _ _ _ c.if-size-w.false c.requires.1 (let h = c.in-None.ensures.lookup.0 in omega arith)

pub returns-in-Some : goal.returns-in-Some
returns-in-Some c =
    let a = c.args in
    let there = c.in-Some.ensures.lookup.0 in
    let part : c.in-Some.part.now ≡ take a.size (drop a.at a.s.now)
    = there.2 ∙ ap (λ (n : ℕ). take n (drop a.at a.s.now)) (omega arith) in
    c.eq.ensures
    ∙ ap (λ (l : List ℕ). bytes_eq l a.w.now) part
    ∙ word_part _ _ _ _ c.if-size-w.false there.1
