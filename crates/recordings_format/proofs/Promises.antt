-- What request 1 promises holds of the definitions: opening and asking read what was written, and nothing else.
use Prim.Native.Nat.{ℕ, ◌+◌, ◌*◌, ◌≤◌, ◌<◌}
use mathlib.Core.Path.{◌≡◌, refl, ap, sym, ◌∙◌, subst}
use mathlib.Core.Bool.{Bool, true, false}
use mathlib.Core.List.{List, [], ◌∷◌, ◌++◌, map, flat_map, append_assoc, map-append}
use native.Mathlib.Omega.{arith}
use lib.ListN.{length, take, drop, get_or, length-append, length-map}
use lib.Seq.{take_at, drop_at, get_or_at}
use lib.Dec.{ltb}
use borrow.Author.Tests.{le-leb, lt-leb, lt-ltb, le-ltb, ltb-true, ltb-false}
use Rattle.sim0mq.specs.Answer.{Answer, fine, refused, ◌>>=◌, part_at}
use Rattle.sim0mq.specs.Message.{limit, no_table, enough, Reading, message, reading}
use Rattle.sim0mq.specs.Allowed.{Each, none, more, joined}
use Rattle.sim0mq.proofs.Answers.{not_fine, fine_eq, guarded, bind_fine, part_fine}
use Rattle.sim0mq.proofs.Demand2.{accepts_what_is_allowed, fields_cover_the_payload}
use Rattle.sim0mq.proofs.Demand3.{copy_is_blank, copy_is_read_alike}
use Rattle.dividing.specs.Front.{Taken}
use Rattle.dividing.specs.Run.{stretches, total}
use Rattle.dividing.proofs.FrontLaws.{taken_wider}
use Rattle.dividing.proofs.RestLaws.{bind_last}
use Rattle.dividing.proofs.RunLaws.{stretches_over}
use Rattle.recordings_format.specs.Edition.{Edition}
use Rattle.recordings_format.specs.Text.{tail_text, IsRecording}
use Rattle.recordings_format.specs.Judge.{Index, index, stretch, stretches_from, place_size, roomy, opening, places_after, Placed, placed_in, asking}
use Rattle.recordings_format.specs.Promises.{opening_numbers, asking_numbers, OpensTheRecordings, RecordingIsOfOne, IndexIsTheTail, Demanded, DemandsSpeakOfEach, RefusalsOfOpening, RefusalsOfAsking, RefusedByTheFirstBad, TableIsLent, RefusalKeepsThePlaces, AskingFindsTheMessage, IsPlaced, AskedIsAMessage, AskingJudgesNoOther, SixteenIsPastTheLast}
use Rattle.recordings_format.proofs.EditionLaws.{listed_row}
use Rattle.recordings_format.proofs.TextLaws.{joined_long, recording_tail}
use Rattle.recordings_format.proofs.CompleteLaws.{index_complete, opening_complete}
use Rattle.recordings_format.proofs.SoundLaws.{index_sound, opening_sound}
use Rattle.recordings_format.proofs.RefusalLaws.{Told, opening_told, asking_told, stretch_not_sixteen}

pub opens_the_recordings : OpensTheRecordings
opens_the_recordings = (opening_complete, λ s i bytes q. opening_sound s bytes i q)

-- a recording's messages are its stretches
own_stretches : (e : Edition) (ms : List (List ℕ)) (s : List ℕ) → IsRecording e ms s → stretches s 0 (map length ms) ≡ ms
own_stretches e ms s i = stretches_over s 0 ms (tail_text e (map length ms)) (sym i.whole)

pub recording_is_of_one : RecordingIsOfOne
recording_is_of_one e f ms ns s i j =
    let same : ◌≡◌ {A = Index} (record { edition = e; lengths = map length ms }) (record { edition = f; lengths = map length ns })
    = fine_eq (sym (opening_complete e ms s i) ∙ opening_complete f ns s j) in (
      ap (λ (x : Index). x.edition) same,
      sym (own_stretches e ms s i) ∙ ap (λ (x : Index). stretches s 0 x.lengths) same ∙ own_stretches f ns s j,
    )

-- each message is accepted by reading, so that the demands' promises speak of it
demanded : (m : List ℕ) → Taken limit m → Demanded m
unfolding reading enough
demanded m (found, q) =
    record {
      found = found;
      reads = q;
      allowed = (accepts_what_is_allowed no_table m (λ h e. refl)).0 (found, q);
      covers = fields_cover_the_payload no_table m found q;
      blank = copy_is_blank no_table m found q;
      alike = copy_is_read_alike no_table m found q;
    }

each_demanded : (least : ℕ) (ms : List (List ℕ)) → least ≤ limit → Each (Taken least) ms → Each Demanded ms
each_demanded least [] h none = none
each_demanded least (m ∷ ms) h (more t ts) =
    more (demanded m (taken_wider least limit m h t)) (each_demanded least ms h ts)

pub demands_speak_of_each : DemandsSpeakOfEach
demands_speak_of_each e ms s i = each_demanded e.most ms (listed_row e i.listed).within i.each

pub index_is_the_tail : IndexIsTheTail
index_is_the_tail s i bytes = (index_sound s bytes i, index_complete i.edition i.lengths s)

-- the lengths before a message, the message's, and the place that they come to
joined_over : (before after : List (List ℕ)) → joined (before ++ after) ≡ joined before ++ joined after
unfolding flat_map
joined_over [] after = refl
joined_over (m ∷ before) after = ap (λ (l : List ℕ). m ++ l) (joined_over before after) ∙ sym (append_assoc m (joined before) (joined after))

each_here : {A : Type 0} {P : A → Type 0} (before : List A) (m : A) (after : List A) → Each P (before ++ (m ∷ after)) → P m
each_here [] m after (more t ts) = t
each_here (x ∷ before) m after (more t ts) = each_here before m after ts

split_there : (e : Edition) (before : List (List ℕ)) (m : List ℕ) (after : List (List ℕ)) (s : List ℕ) → IsRecording e (before ++ (m ∷ after)) s
    → take (length m) (drop (length (joined before)) s) ≡ m
unfolding flat_map
split_there e before m after s i =
    let tail = tail_text e (map length (before ++ (m ∷ after))) in
    let rest = joined after ++ tail in
    let whole : s ≡ joined before ++ (m ++ rest)
    =
    sym i.whole
    ∙ ap (λ (l : List ℕ). l ++ tail) (joined_over before (m ∷ after))
    ∙ append_assoc (joined before) (m ++ joined after) tail
    ∙ ap (λ (l : List ℕ). joined before ++ l) (append_assoc m (joined after) tail) in
    ap (λ (l : List ℕ). take (length m) (drop (length (joined before)) l)) whole
    ∙ ap (take (length m)) (drop_at (joined before) (m ++ rest) (length (joined before)) refl)
    ∙ take_at m rest (length m) refl

pub asking_finds_the_message : AskingFindsTheMessage
unfolding asking stretch
asking_finds_the_message e before m after s i =
    let ms = before ++ (m ∷ after) in
    let ns = map length ms in
    let k = length before in
    let many : length (map length before) ≡ k = length-map before length in
    let lengths : ns ≡ map length before ++ (length m ∷ map length after) = map-append length before (m ∷ after) in
    let size : get_or ns k 0 ≡ length m
    = ap (λ (l : List ℕ). get_or l k 0) lengths ∙ get_or_at (map length before) (length m) (map length after) 0 k many in
    let start : total (take k ns) ≡ length (joined before)
    =
    ap (λ (l : List ℕ). total (take k l)) lengths
    ∙ ap total (take_at (map length before) (length m ∷ map length after) k many)
    ∙ sym (joined_long before) in
    let there : take (get_or ns k 0) (drop (total (take k ns)) s) ≡ m
    = ap (λ (n : ℕ). take n (drop (total (take k ns)) s)) size ∙ ap (λ (n : ℕ). take (length m) (drop n s)) start ∙ split_there e before m after s i in
    let few : k < length ns = omega (arith, length-map ms length, length-append before (m ∷ after)) in
    let taken = each_here before m after i.each in
    record {
      placed = placed_in ns k;
      answers = simp (index_complete e ns s (recording_tail e ms s i), lt-ltb k (length ns) few, there, taken.1);
      there = there;
    }

pub asked_is_a_message : AskedIsAMessage
unfolding asking stretch
asked_is_a_message s k p q =
    let a = bind_fine (index s) _ q in
    let ns = a.0.lengths in
    let b = guarded (ltb k (length ns)) _ _ _ a.2 in
    let at = total (take k ns) in
    let n = get_or ns k 0 in
    let c = bind_fine (part_at at (message a.0.edition.most no_table (take n (drop at s)))) _ b.1 in
    subst (λ (x : Placed). IsPlaced s k x) (fine_eq c.2)
    (record {
      found = a.0;
      indexed = a.1;
      listed = ltb-true k (length ns) b.0;
      says = refl;
      taken = (c.0, part_fine at _ c.1);
    })

pub asking_judges_no_other : AskingJudgesNoOther
unfolding asking stretch
asking_judges_no_other s t i k p q same = simp (p, q, same)

pub refusals_of_opening : RefusalsOfOpening
refusals_of_opening lent s number place q =
    subst (λ (a : Answer Index). Told (opening_numbers lent) s a) q (opening_told lent s)

pub refusals_of_asking : RefusalsOfAsking
refusals_of_asking s k number place q = subst (λ (a : Answer Placed). Told asking_numbers s a) q (asking_told s k)

-- the first bad of messages that begin at `at`
record BadFrom (most : ℕ) (s : List ℕ) (at : ℕ) (ns : List ℕ) (number place : ℕ) : Type 0 where
  pub before : List ℕ
  pub size : ℕ
  pub after : List ℕ
  pub lengths : ns ≡ before ++ (size ∷ after)
  pub good : Each (Taken most) (stretches s at before)
  pub within : ℕ
  pub bad : message most no_table (take size (drop (at + total before) s)) ≡ refused number within
  pub there : place ≡ at + total before + within

bad_first : (most : ℕ) (s : List ℕ) (at : ℕ) (ns : List ℕ) (number place : ℕ)
    → stretches_from most s at ns ≡ refused number place → BadFrom most s at ns number place
unfolding stretches_from stretch stretches total
bad_first most s at [] number place q = absurd (not_fine (sym q))
bad_first most s at (n ∷ ns) number place q =
    go (message most no_table (take n (drop at s))) refl q (λ r. bad_first most s (at + n) ns number place r)
  where
    go : (a : Answer Reading) → message most no_table (take n (drop at s)) ≡ a
        → (part_at at a >>= (λ m. stretches_from most s (at + n) ns)) ≡ refused number place
        → (stretches_from most s (at + n) ns ≡ refused number place → BadFrom most s (at + n) ns number place)
        → BadFrom most s at (n ∷ ns) number place
    go (refused k p) is r others =
        let here : at ≡ at + 0 = omega arith in
        let same : k ≡ number = cc in
        let placed : at + p ≡ place = cc in
        record {
          before = [];
          size = n;
          after = ns;
          lengths = refl;
          good = none;
          within = p;
          bad = ap (λ (x : ℕ). message most no_table (take n (drop x s))) (sym here) ∙ is ∙ ap (λ (x : ℕ). refused x p) same;
          there = omega arith;
        }
    go (fine m) is r others =
        let b = others r in
        let sum : at + n + total b.before ≡ at + (n + total b.before) = omega arith in
        let placed = b.there in
        record {
          before = n ∷ b.before;
          size = b.size;
          after = b.after;
          lengths = ap (λ (l : List ℕ). n ∷ l) b.lengths;
          good = more (m, is) b.good;
          within = b.within;
          bad = ap (λ (x : ℕ). message most no_table (take b.size (drop x s))) (sym sum) ∙ b.bad;
          there = omega arith;
        }

pub refused_by_the_first_bad : RefusedByTheFirstBad
unfolding opening roomy
refused_by_the_first_bad s i number place is q =
    let r : (stretches_from i.edition.most s 0 i.lengths >>= (λ u. fine i)) ≡ refused number place
    = sym (simp is) ∙ q in
    let b = bad_first i.edition.most s 0 i.lengths number place (bind_last _ _ r) in
    let none_before : 0 + total b.before ≡ total b.before = omega arith in
    let placed = b.there in
    record {
      before = b.before;
      size = b.size;
      after = b.after;
      lengths = b.lengths;
      good = b.good;
      within = b.within;
      bad =
          ap (λ (x : ℕ). message i.edition.most no_table (take b.size (drop x s))) (sym none_before) ∙ b.bad;
      there = omega arith;
    }

pub table_is_lent : TableIsLent
unfolding opening roomy
table_is_lent s i r is = (
  λ h. simp (is, le-leb (place_size * length i.lengths) r h),
  λ h. simp (is, lt-leb (place_size * length i.lengths) r h),
)

pub refusal_keeps_the_places : RefusalKeepsThePlaces
unfolding places_after
refusal_keeps_the_places lent s t number place q = simp q

pub sixteen_is_past_the_last : SixteenIsPastTheLast
unfolding asking
sixteen_is_past_the_last s i k is = (past (ltb k (length i.lengths)) refl, λ h. simp (is, le-ltb k (length i.lengths) h))
  where
    past : (t : Bool) → ltb k (length i.lengths) ≡ t → asking s k ≡ refused 16 0 → length i.lengths ≤ k
    past false e q = ltb-false k (length i.lengths) e
    past true e q =
        let at = (placed_in i.lengths k).start in
        let size = (placed_in i.lengths k).size in
        let r : (stretch i.edition.most s at size >>= (λ m. fine (placed_in i.lengths k))) ≡ refused 16 0
        = sym (simp (is, e)) ∙ q in
        absurd (stretch_not_sixteen i.edition.most s at size 0 (bind_last _ _ r))
