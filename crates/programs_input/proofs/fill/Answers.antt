-- Each read puts its bytes after those before them, and they are what it took of the input.
use Rattle.std.proofs.Common.{◌≡◌, ℕ, ◌+◌, ◌-◌, ◌≤◌, List, ◌++◌, rules, length, take, subst, sym, ap, ◌∙◌}
use Rattle.std.specs.Io.KnownBytes.{Consumes}
use Rattle.std.proofs.KnownBytes.{Consumes-trans}
use Rattle.std.proofs.Math.Seq.{take-append-add}
use Rattle.std.proofs.lemmas.List.{take-append-le, length-take-le}
use borrow.Rule.Slice.PartMut.{put_mid, post_of}
use Rattle.programs_input.proofs.fill.Goals as goal

-- the bytes before a are the old ones, and the n after them those that were read
joined : (a k n : ℕ) (xs ys : List ℕ) → a ≤ length xs → n ≤ length ys → take a xs ++ take n ys ≡ take (a + n) (put_mid a k xs ys)
joined a k n xs ys within fits =
    ap (λ l. take a xs ++ l) (sym (take-append-le n ys (post_of a k xs) fits))
    ∙ sym (take-append-add (take a xs) (ys ++ post_of a k xs) n)
    ∙ ap (λ m. take (m + n) (put_mid a k xs ys)) (length-take-le a xs within)

pub loop-at-preserved : goal.loop-at-preserved
loop-at-preserved g c =
    let l = c.loop-at in
    let now = c.in_ok-more.ensures in
    record {
      same_length = search rules;
      within = search rules;
      took =
          subst (Consumes _ _) (joined l.at (length l.buf - l.at) c.in_ok-more.more l.buf c.read.new.buf l.invariant.within now.bound.0)
          (Consumes-trans _ _ _ _ _ l.invariant.took now.bytes.0);
    }
