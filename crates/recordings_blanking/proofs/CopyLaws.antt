-- The messages of an accepted recording stand end to end before its index, and a message's copy is as long and reads
-- alike; so their copies with the same index are an accepted recording, blank where each of them is.
use Prim.Native.Nat.{ℕ, zero, suc, ◌+◌, ◌≤◌, ◌<◌}
use mathlib.Core.Path.{◌≡◌, refl, ap, ap₂, sym, ◌∙◌, subst, subst₂}
use mathlib.Core.List.{List, [], ◌∷◌, ◌++◌, map, flat_map, append_assoc}
use native.Mathlib.Omega.{arith}
use native.Mathlib.Nat.{add-zero, not-suc-le-zero, zero-add}
use lib.ListN.{length, take, drop, get_or, length-append, length-drop, take-append-drop}
use lib.Seq.{length-take-le, drop_at, get_or-drop, ext_get_or}
use borrow.Author.Tests.{le-leb, lt-ltb}
use Rattle.sim0mq.specs.Answer.{fine, byte}
use Rattle.sim0mq.specs.Field.{Field}
use Rattle.sim0mq.specs.Payload.{moved}
use Rattle.sim0mq.specs.Message.{limit, no_table, Reading, message, reading}
use Rattle.sim0mq.specs.Allowed.{Each, none, more, joined}
use Rattle.sim0mq.specs.Demand3.{ValueByte, IsBlank, SameBuild}
use Rattle.sim0mq.proofs.Answers.{fine_eq, bind_fine}
use Rattle.sim0mq.proofs.BlankLaws.{Inside, blank_same, some_field}
use Rattle.sim0mq.proofs.Demand3.{inside, copy_is_blank, copy_is_read_alike, copy_tells_only_the_build}
use Rattle.dividing.specs.Front.{Taken}
use Rattle.dividing.specs.Run.{stretches, total}
use Rattle.dividing.proofs.FrontLaws.{taken_short, taken_wider}
use Rattle.dividing.proofs.RunLaws.{stretches_over, stretches_joined, stretches_many}
use Rattle.recordings_format.specs.Edition.{trailer_size}
use Rattle.recordings_format.specs.Judge.{Index, index, stretch, stretches_from, roomy, opening, placed_in, asking}
use Rattle.recordings_format.proofs.IndexLaws.{index_says}
use Rattle.recordings_format.proofs.TextLaws.{joined_long}
use Rattle.recordings_format.proofs.SoundLaws.{stretches_long, stretches_sound}
use Rattle.recordings_index.proofs.TailLaws.{index_same}
use Rattle.recordings_blanking.specs.Blanking.{fields_of, copy_of, copies_in, blanked_recording}
use Rattle.recordings_blanking.specs.Promises.{fields_over, fields_in}
use Rattle.recordings_blanking.proofs.JoinLaws.{Side, first, second, side, value_inside, blank_join, build_first, build_second}

-- one message
module _ (m : List ℕ) (t : Taken limit m) where
  read : reading no_table m ≡ fine t.0
  unfolding reading
  read = t.1

  one_inside : Each (Inside (length m)) (fields_of (reading no_table m))
  one_inside = rw read (inside no_table m t.0 read)

  one_blank : IsBlank m (fields_of (reading no_table m)) (copy_of m)
  unfolding copy_of
  one_blank = rw read (copy_is_blank no_table m t.0 read)

  pub one_long : length (copy_of m) ≡ length m
  one_long = one_blank.long

  one_alike : reading no_table (copy_of m) ≡ reading no_table m
  unfolding copy_of
  one_alike = rw read (copy_is_read_alike no_table m t.0 read)

-- a message within a limit, and within another
message_within : (least most : ℕ) (s : List ℕ) → length s ≤ least → length s ≤ most → message least no_table s ≡ message most no_table s
unfolding message
message_within least most s h k = simp (le-leb (length s) least h, le-leb (length s) most k)

one_taken : (most : ℕ) (m : List ℕ) → most ≤ limit → Taken most m → Taken most (copy_of m)
unfolding reading
one_taken most m h t =
    let wide = taken_wider most limit m h t in
    let short = taken_short most m t in
    let long = one_long m wide in
    let same = message_within most limit (copy_of m) (omega arith) (omega arith) in
    (wide.0, same ∙ one_alike m wide ∙ wide.1)

-- many of them, end to end, and what follows them
copies_long : (ms : List (List ℕ)) → Each (Taken limit) ms → map length (map copy_of ms) ≡ map length ms
copies_long [] none = refl
copies_long (m ∷ ms) (more t ts) = ap₂ ◌∷◌ (one_long m t) (copies_long ms ts)

copies_taken : (most : ℕ) (ms : List (List ℕ)) → most ≤ limit → Each (Taken most) ms → Each (Taken most) (map copy_of ms)
copies_taken most [] h none = none
copies_taken most (m ∷ ms) h (more t ts) = more (one_taken most m h t) (copies_taken most ms h ts)

pub each_wider : (least most : ℕ) (ms : List (List ℕ)) → least ≤ most → Each (Taken least) ms → Each (Taken most) ms
each_wider least most [] h none = none
each_wider least most (m ∷ ms) h (more t ts) = more (taken_wider least most m h t) (each_wider least most ms h ts)

over_blank : (ms : List (List ℕ)) (tail : List ℕ) → Each (Taken limit) ms
    → IsBlank (joined ms ++ tail) (fields_over ms) (joined (map copy_of ms) ++ tail)
unfolding fields_over flat_map
over_blank [] tail none = record { long = refl; zeros = λ i v. absurd (not-suc-le-zero (some_field v)); same = λ i v. refl }
over_blank (m ∷ ms) tail (more t ts) =
    subst₂ (λ (a b : List ℕ). IsBlank a (fields_over (m ∷ ms)) b) (sym (append_assoc m (joined ms) tail))
    (sym (append_assoc (copy_of m) (joined (map copy_of ms)) tail))
    (blank_join m (joined ms ++ tail) (copy_of m) (joined (map copy_of ms) ++ tail) (fields_of (reading no_table m)) (fields_over ms)
    (one_inside m t) (one_blank m t) (over_blank ms tail ts))

-- their value bytes lie in them
over_within : (ms : List (List ℕ)) (i : ℕ) → Each (Taken limit) ms → ValueByte (fields_over ms) i → i < length (joined ms)
unfolding fields_over flat_map
over_within [] i none v = absurd (not-suc-le-zero (some_field v))
over_within (m ∷ ms) i (more t ts) v =
    go (side (fields_of (reading no_table m)) (fields_over ms) (length m) i v) (λ j w. over_within ms j ts w)
  where
    go : Side (fields_of (reading no_table m)) (fields_over ms) (length m) i
        → ((j : ℕ) → ValueByte (fields_over ms) j → j < length (joined ms)) → i < length (m ++ joined ms)
    go (first w) later =
        omega (arith, value_inside (fields_of (reading no_table m)) (length m) i (one_inside m t) w, length-append m (joined ms))
    go (second j e w) later = omega (arith, later j w, length-append m (joined ms))

-- their copies have the same fields
over_alike : (ms : List (List ℕ)) → Each (Taken limit) ms → fields_over (map copy_of ms) ≡ fields_over ms
unfolding fields_over
over_alike [] none = refl
over_alike (m ∷ ms) (more t ts) =
    let alike = one_alike m t in
    let long = one_long m t in
    let later = over_alike ms ts in
    λ k. fields_of (alike k) ++ map (moved (long k)) (later k)

-- messages of one build have the same fields
over_built : (ms ns : List (List ℕ)) (a b : List ℕ) → Each (Taken limit) ms → Each (Taken limit) ns → map length ms ≡ map length ns
    → SameBuild (fields_over ms) (joined ms ++ a) (joined ns ++ b) → fields_over ms ≡ fields_over ns
unfolding fields_over flat_map
over_built [] [] a b none none e x = refl
over_built [] (n ∷ ns) a b none us e x = absurd (let z : ◌≡◌ {A = ℕ} 0 (suc (length (map length ns))) = ap length e in omega arith)
over_built (m ∷ ms) [] a b ts none e x = absurd (let z : ◌≡◌ {A = ℕ} (suc (length (map length ms))) 0 = ap length e in omega arith)
over_built (m ∷ ms) (n ∷ ns) a b (more t ts) (more u us) e x =
    let long : length m ≡ length n = ap (λ (l : List ℕ). get_or l 0 0) e in
    let others : map length ms ≡ map length ns = ap (drop 1) e in
    let fs = fields_of (reading no_table m) in
    let gs = fields_over ms in
    let y : SameBuild (fields_over (m ∷ ms)) (m ++ (joined ms ++ a)) (n ++ (joined ns ++ b))
    =
    subst₂ (λ (p q : List ℕ). SameBuild (fields_over (m ∷ ms)) p q) (append_assoc m (joined ms) a)
    (append_assoc n (joined ns) b) x in
    let here : SameBuild fs m n = build_first m (joined ms ++ a) n (joined ns ++ b) fs gs long y in
    let there : SameBuild gs (joined ms ++ a) (joined ns ++ b)
    = build_second m (joined ms ++ a) n (joined ns ++ b) fs gs long y (one_inside m t) in
    let same : t.0 ≡ u.0
    =
    (copy_tells_only_the_build no_table m n t.0 u.0 (read m t) (read n u)).1
    (subst (λ (l : List Field). SameBuild l m n) (ap fields_of (read m t)) here) in
    let fields : fs ≡ fields_of (reading no_table n)
    = ap fields_of (read m t) ∙ ap (λ (r : Reading). r.fields) same ∙ sym (ap fields_of (read n u)) in
    let later = over_built ms ns a b ts us others there in
    λ k. fields k ++ map (moved (long k)) (later k)

-- a stretch of these lengths
stretch_nth : (s : List ℕ) (at : ℕ) (ns : List ℕ) (k : ℕ) → k < length ns
    → get_or (stretches s at ns) k [] ≡ take (get_or ns k 0) (drop (at + total (take k ns)) s)
unfolding stretches total
stretch_nth s at [] k h = absurd (not-suc-le-zero h)
stretch_nth s at (n ∷ ns) zero h = ap (λ (p : ℕ). take n (drop p s)) (sym (add-zero at))
stretch_nth s at (n ∷ ns) (suc k) h =
    let sum : at + n + total (take k ns) ≡ at + (n + total (take k ns)) = omega arith in
    stretch_nth s (at + n) ns k (omega arith) ∙ ap (λ (p : ℕ). take (get_or ns k 0) (drop p s)) sum

pub nth_is : (s : List ℕ) (ns : List ℕ) (k : ℕ) → k < length ns
    → get_or (stretches s 0 ns) k [] ≡ take (placed_in ns k).size (drop (placed_in ns k).start s)
nth_is s ns k h =
    stretch_nth s 0 ns k h ∙ ap (λ (p : ℕ). take (get_or ns k 0) (drop p s)) (zero-add (total (take k ns)))

each_nth : (most : ℕ) (ms : List (List ℕ)) (k : ℕ) → k < length ms → Each (Taken most) ms → Taken most (get_or ms k [])
each_nth most [] k h none = absurd (not-suc-le-zero h)
each_nth most (m ∷ ms) zero h (more t ts) = t
each_nth most (m ∷ ms) (suc k) h (more t ts) = each_nth most ms k (omega arith) ts

pub copied_nth : (ms : List (List ℕ)) (k : ℕ) → k < length ms → get_or (map copy_of ms) k [] ≡ copy_of (get_or ms k [])
copied_nth [] k h = absurd (not-suc-le-zero h)
copied_nth (m ∷ ms) zero h = refl
copied_nth (m ∷ ms) (suc k) h = copied_nth ms k (omega arith)

-- each of them accepted, so all
stretches_fine : (most : ℕ) (s : List ℕ) (at : ℕ) (ns : List ℕ) → Each (Taken most) (stretches s at ns)
    → stretches_from most s at ns ≡ fine tt
unfolding stretches_from stretch stretches
stretches_fine most s at [] none = refl
stretches_fine most s at (n ∷ ns) (more t ts) = simp (t.1, stretches_fine most s (at + n) ns ts)

opening_fine : (s : List ℕ) (i : Index) → index s ≡ fine i → Each (Taken i.edition.most) (stretches s 0 i.lengths)
    → opening no_table s ≡ fine i
unfolding opening roomy
opening_fine s i is each = simp (is, stretches_fine i.edition.most s 0 i.lengths each)

-- a recording that opens
module _ (s : List ℕ) (i : Index) (q : opening no_table s ≡ fine i) where
  abbrev ns : List ℕ
  ns = i.lengths

  abbrev ms : List (List ℕ)
  ms = stretches s 0 ns

  found : (index s ≡ fine i) × Each (Taken i.edition.most) ms
  unfolding opening roomy
  found =
      let a = bind_fine (index s) _ q in
      let b = bind_fine (stretches_from a.0.edition.most s 0 a.0.lengths) _ a.2 in
      let same = fine_eq b.2 in (
        a.1 ∙ b.2,
        subst (λ (x : Index). Each (Taken x.edition.most) (stretches s 0 x.lengths)) same
            (stretches_sound a.0.edition.most s 0 a.0.lengths b.1),
      )

  pub opened_index : index s ≡ fine i
  opened_index = found.0

  pub opened_within : total ns ≤ length s
  opened_within = let fills = (index_says s i opened_index).fills in below (total ns) _ (length s) fills
    where
      below : (p n l : ℕ) → p + n + trailer_size ≡ l → p ≤ l
      below p n l e = omega arith

  most_within : i.edition.most ≤ limit
  most_within = (index_says s i opened_index).row.within

  pub opened_each : Each (Taken limit) ms
  opened_each = each_wider i.edition.most limit ms most_within found.1

  lengths_are : map length ms ≡ ns
  lengths_are = stretches_long s 0 ns (let h = opened_within in omega arith)

  -- the messages, and then the rest
  whole : joined ms ++ drop (total ns) s ≡ s
  whole = ap (λ (l : List ℕ). l ++ drop (total ns) s) (stretches_joined s 0 ns) ∙ take-append-drop (total ns) s

  messages_long : length (joined ms) ≡ total ns
  messages_long = let h = opened_within in ap length (stretches_joined s 0 ns) ∙ length-take-le (total ns) s h

  abbrev copy : List ℕ
  copy = blanked_recording s ns

  pub copy_blank : IsBlank s (fields_in s ns) copy
  unfolding blanked_recording copies_in
  copy_blank = subst (λ (l : List ℕ). IsBlank l (fields_in s ns) copy) whole (over_blank ms (drop (total ns) s) opened_each)

  -- the copies are as long as their messages
  pub copies_are_long : length (copies_in s ns) ≡ total ns
  unfolding copies_in
  copies_are_long =
      joined_long (map copy_of ms) ∙ ap total (copies_long ms opened_each) ∙ sym (joined_long ms) ∙ messages_long

  copy_ends : drop (total ns) copy ≡ drop (total ns) s
  unfolding blanked_recording
  copy_ends = drop_at (copies_in s ns) (drop (total ns) s) (total ns) copies_are_long

  pub copy_cut : stretches copy 0 ns ≡ map copy_of ms
  unfolding blanked_recording copies_in
  copy_cut =
      let lengths : ns ≡ map length (map copy_of ms) = sym (copies_long ms opened_each ∙ lengths_are) in
      ap (stretches copy 0) lengths ∙ stretches_over copy 0 (map copy_of ms) (drop (total ns) s) refl

  copy_index : index copy ≡ fine i
  copy_index = index_same s copy i (sym copy_blank.long) (sym copy_ends) opened_index

  pub copy_opens : opening no_table copy ≡ fine i
  copy_opens =
      opening_fine copy i copy_index
      (subst (λ (l : List (List ℕ)). Each (Taken i.edition.most) l) (sym copy_cut)
      (copies_taken i.edition.most ms most_within found.1))

  -- a message of it is accepted, and asking finds it
  taken_nth : (k : ℕ) → k < length ns → Taken i.edition.most (take (placed_in ns k).size (drop (placed_in ns k).start s))
  taken_nth k h =
      subst (λ (m : List ℕ). Taken i.edition.most m) (nth_is s ns k h)
      (each_nth i.edition.most ms k (omega (arith, stretches_many s 0 ns)) found.1)

  pub opened_nth : (k : ℕ) → k < length ns → Taken limit (take (placed_in ns k).size (drop (placed_in ns k).start s))
  opened_nth k h = taken_wider i.edition.most limit _ most_within (taken_nth k h)

  pub opened_asks : (k : ℕ) → k < length ns → asking s k ≡ fine (placed_in ns k)
  unfolding asking stretch
  opened_asks k h = simp (opened_index, lt-ltb k (length ns) h, (taken_nth k h).1)

-- two recordings that open
module _ (s t : List ℕ) (i j : Index) (q : opening no_table s ≡ fine i) (r : opening no_table t ≡ fine j) where
  -- the same copy, so the same entries, the same fields and the same build
  pub same_build : blanked_recording s i.lengths ≡ blanked_recording t j.lengths → SameBuild (fields_in s i.lengths) s t
  same_build e =
      let a = copy_blank s i q in
      let b = copy_blank t j r in
      let alike : i ≡ j
      = fine_eq (sym (copy_opens s i q) ∙ ap (opening no_table) e ∙ copy_opens t j r) in
      let cuts : map copy_of (stretches s 0 i.lengths) ≡ map copy_of (stretches t 0 j.lengths)
      =
      sym (copy_cut s i q)
      ∙ ap₂ (λ (l : List ℕ) (x : Index). stretches l 0 x.lengths) e alike
      ∙ copy_cut t j r in
      let fields : fields_in t j.lengths ≡ fields_in s i.lengths
      =
      sym (over_alike (stretches t 0 j.lengths) (opened_each t j r))
      ∙ ap fields_over (sym cuts)
      ∙ over_alike (stretches s 0 i.lengths) (opened_each s i q) in
      record {
        long = sym a.long ∙ ap length e ∙ b.long;
        same =
            λ n v.
            sym (a.same n v)
            ∙ ap (λ (l : List ℕ). byte l n) e
            ∙ b.same n (λ w. v (subst (λ (fs : List Field). ValueByte fs n) fields w));
      }

  module _ (x : SameBuild (fields_in s i.lengths) s t) where
    -- no value byte stands after the messages
    ends : drop (total i.lengths) s ≡ drop (total i.lengths) t
    ends =
        let at = total i.lengths in
        ext_get_or 0 (drop at s) (drop at t) (omega (arith, length-drop at s, length-drop at t, x.long))
        (λ n h.
        get_or-drop at s n 0
        ∙ x.same (at + n)
        (λ v.
        let within = over_within (stretches s 0 i.lengths) (at + n) (opened_each s i q) v in
        let long = messages_long s i q in
        omega arith)
        ∙ sym (get_or-drop at t n 0))

    -- so the entries are the same
    pub same_entries : i ≡ j
    same_entries =
        fine_eq (sym (index_same s t i x.long ends (opened_index s i q)) ∙ opened_index t j r)

    -- and the fields are, and the copies
    pub same_copy : blanked_recording s i.lengths ≡ blanked_recording t j.lengths
    same_copy =
        let lengths : map length (stretches s 0 i.lengths) ≡ map length (stretches t 0 j.lengths)
        = lengths_are s i q ∙ ap (λ (y : Index). y.lengths) same_entries ∙ sym (lengths_are t j r) in
        let fields : fields_in s i.lengths ≡ fields_in t j.lengths
        =
        over_built (stretches s 0 i.lengths) (stretches t 0 j.lengths) (drop (total i.lengths) s)
        (drop (total j.lengths) t) (opened_each s i q) (opened_each t j r) lengths
        (subst₂ (λ (a b : List ℕ). SameBuild (fields_in s i.lengths) a b) (sym (whole s i q)) (sym (whole t j r)) x) in
        blank_same s t _ _ (fields_in s i.lengths) x.long x.same (copy_blank s i q)
        (subst (λ (fs : List Field). IsBlank t fs (blanked_recording t j.lengths)) (sym fields) (copy_blank t j r))
