-- What the writer finished reads back as it was given: its bytes are a header and fields that the manual allows, so
-- reading finds just these parts.
use Prim.Native.Nat.{ℕ, ◌+◌, ◌-◌, ◌<◌, ◌≤◌}
use mathlib.Core.Path.{◌≡◌, refl, ap, ap₂, sym, ◌∙◌, subst}
use mathlib.Core.Bool.{true}
use mathlib.Core.List.{List, [], ◌∷◌, ◌++◌, map, flat_map, append_assoc}
use native.Mathlib.Omega.{arith}
use native.Mathlib.Nat.{zero-add}
use lib.ListN.{length, take, drop, length-append, length-map}
use lib.Seq.{take_at}
use Rattle.sim0mq.specs.Answer.{fine, byte, big}
use Rattle.sim0mq.specs.Codes.{width_of}
use Rattle.sim0mq.specs.Field.{Field}
use Rattle.sim0mq.specs.Message.{limit, no_table, enough, Reading, reading}
use Rattle.sim0mq.specs.Allowed.{Each, more, FieldParts, field_bytes, frame0, header_bytes, IsHeader, MessageParts, message_bytes, IsMessage}
use Rattle.sim0mq.specs.Demand2.{cut_frames}
use Rattle.sim0mq.proofs.Answers.{not_fine, fine_eq, guarded}
use Rattle.sim0mq.proofs.Stands.{Stands, stands_to, stands_head, stands_tail, stands_left, stands_right, stands_self, big_number, part_back}
use Rattle.sim0mq.proofs.MessageLaws.{cut_of, message_complete}
use Rattle.sim0mq.proofs.Demand2.{room_is_all_that_counts}
use Rattle.sim0mq_numbers.specs.Bytes.{big_bytes}
use Rattle.asking.specs.Asking.{nth}
use Rattle.sim0mq_signed.specs.Signed.{twos, bits_of}
use Rattle.asking_scalars.specs.Scalars.{value}
use Rattle.asking_scalars.specs.Promises.{own_bytes, value_alone}
use Rattle.sim0mq_kinds.specs.declared.Scalar.{Scalar}
use Rattle.asking.proofs.AskLaws.{asked_nth}
use Rattle.asking.proofs.Promises.{asking_agrees_with_reading}
use Rattle.asking_scalars.proofs.Promises.{value_is_its_bytes}
use Rattle.writing_encoding.specs.Scalars.{scalar_text, writable, scalar_given}
use Rattle.writing_puts.specs.Placing.{number_text}
use Rattle.writing_opening.specs.Opening.{header_with}
use Rattle.writing.specs.Writing.{Opening, count_code, header_text, Given, scalar, field_given}
use Rattle.writing_returning.specs.History.{Point, Finished, bytes_of}
use Rattle.writing_returning.specs.Promises.{Held, frame_place, SaysHeader, ReadsBack}
use Rattle.writing_puts.proofs.PlaceLaws.{big_length}
use Rattle.writing_puts.proofs.NumberLaws.{number_read}
use Rattle.writing_returning.proofs.NumberLaws.{signed_back, bits_held}
use Rattle.writing_returning.proofs.ScalarLaws.{scalar_back}
use Rattle.writing_returning.proofs.JoinLaws.{flat_same, four_long}
use Rattle.writing_returning.proofs.GivenLaws.{own_fields_lem}
use Rattle.writing_returning.proofs.HistoryLaws.{Taken, Known}
use Rattle.writing_returning.proofs.OpenLaws.{opened_parts, Opened, status_byte}

-- the message of a header and fields, and what reading finds in it
module _ (o : Opening) (room : ℕ) (h : Opened o room (header_text o)) (fs : List FieldParts) where
  abbrev parts : MessageParts
  parts = record { header = opened_parts h.run h.sender h.receiver h.kind o; fields = fs }

  abbrev s : List ℕ
  s = message_bytes parts

  -- the places of frames 5 to 7
  ids_long : length o.ids
      ≡ length (field_bytes h.run) + length (field_bytes h.sender) + length (field_bytes h.receiver) + length (field_bytes h.kind)
  unfolding flat_map
  ids_long =
      ap length (sym h.ids) ∙ four_long (field_bytes h.run) (field_bytes h.sender) (field_bytes h.receiver) (field_bytes h.kind)

  place_5 : frame_place (cut_of parts) 5 ≡ 10 + length o.ids
  unfolding cut_frames
  place_5 = let e = ids_long in omega arith

  place_6 : frame_place (cut_of parts) 6 ≡ 10 + length o.ids + 9
  unfolding cut_frames flat_map
  place_6 = let e = ids_long in omega (arith, big_length 8 (bits_of 64 o.number))

  place_7 : frame_place (cut_of parts) 7 ≡ 10 + length o.ids + 11
  unfolding cut_frames flat_map
  place_7 = let e = ids_long in omega (arith, big_length 8 (bits_of 64 o.number), big_length 1 o.status)

  -- what stands there
  abbrev c : ℕ
  c = count_code o.kind

  abbrev count : List ℕ
  count = number_text c (width_of c) o.fields

  abbrev status : List ℕ
  status = number_text 0 1 o.status

  abbrev message_number : List ℕ
  message_number = number_text 3 8 (bits_of 64 o.number)

  after_0 : Stands s 10 (o.ids ++ (message_number ++ (status ++ count)))
  unfolding header_with
  after_0 =
      let front = header_bytes parts.header in
      let whole : Stands s 0 (header_text o) = subst (Stands s 0) h.bytes (stands_left front (flat_map field_bytes fs) (stands_self s)) in
      stands_right frame0 (o.ids ++ (message_number ++ (status ++ count))) whole

  at_5 : Stands s (10 + length o.ids) (message_number ++ (status ++ count))
  at_5 = stands_right o.ids (message_number ++ (status ++ count)) after_0

  at_6 : Stands s (10 + length o.ids + 9) (status ++ count)
  at_6 = stands_to _ (let e = big_length 8 (bits_of 64 o.number) in omega arith) (stands_right message_number (status ++ count) at_5)

  at_7 : Stands s (10 + length o.ids + 11) count
  at_7 = stands_to _ (let e = big_length 1 o.status in omega arith) (stands_right status count at_6)

  header_said : SaysHeader o s (cut_of parts)
  unfolding cut_frames
  header_said =
      let n = length o.ids in
      let ids : frame_place (cut_of parts) 5 - 10 ≡ n = omega (arith, place_5) in
      let five : frame_place (cut_of parts) 5 + 1 ≡ 10 + n + 1 = ap (λ (k : ℕ). k + 1) place_5 in
      let six : frame_place (cut_of parts) 6 + 1 ≡ 10 + n + 9 + 1 = ap (λ (k : ℕ). k + 1) place_6 in
      let seven : frame_place (cut_of parts) 7 + 1 ≡ 10 + n + 11 + 1 = ap (λ (k : ℕ). k + 1) place_7 in
      record {
        ids =
            ap (λ (k : ℕ). take k (drop 10 s)) ids
            ∙ part_back o.ids (stands_left o.ids (message_number ++ (status ++ count)) after_0);
        number =
            λ held.
            ap (λ (k : ℕ). twos 64 (big s k 8)) five
            ∙ ap (twos 64) (number_read 8 (bits_of 64 o.number) (bits_held 64 o.number (omega arith) held) (stands_tail (stands_left message_number (status ++ count) at_5)))
            ∙ signed_back 64 o.number (omega arith) held;
        status =
            ap (byte s) six
            ∙ stands_head (subst (Stands s (10 + n + 9 + 1)) (status_byte o.status h.status) (stands_tail (stands_left status count at_6)));
        kind = ap (byte s) place_7 ∙ stands_head at_7;
        count =
            ap (λ (k : ℕ). big s k (width_of c)) seven
            ∙ ap (big s (10 + n + 11 + 1)) (sym (big_length (width_of c) o.fields))
            ∙ big_number (big_bytes (width_of c) o.fields) (stands_tail at_7)
            ∙ h.is.declares;
      }

-- equal lists have equal first elements and equal rests
first_same : {A : Type 0} {x y : A} {xs ys : List A} → x ∷ xs ≡ y ∷ ys → x ≡ y
first_same e = cc

rest_same : {A : Type 0} {x y : A} {xs ys : List A} → x ∷ xs ≡ y ∷ ys → xs ≡ ys
rest_same e = cc

-- so of two equal lists of strings the one at k is the same
nth_bytes : (own : Field → List ℕ) (fs : List Field) (before after : List Given) (g : Given) (f : Field)
    → map own fs ≡ map bytes_of (before ++ (g ∷ after)) → nth fs (length before) ≡ fine f → own f ≡ bytes_of g
unfolding nth
nth_bytes own [] before after g f e q = absurd (not_fine q)
nth_bytes own (x ∷ fs) [] after g f e q = ap own (sym (fine_eq q)) ∙ first_same e
nth_bytes own (x ∷ fs) (b ∷ before) after g f e q = nth_bytes own fs before after g f (rest_same e) q

-- there is a field for each string that was given
nth_there : (own : Field → List ℕ) (fs : List Field) (before after : List Given) (g : Given) → map own fs ≡ map bytes_of (before ++ (g ∷ after))
    → length before < length fs
nth_there own fs before after g e =
    let gs = before ++ (g ∷ after) in
    let long : length fs ≡ length gs = sym (length-map fs own) ∙ ap length e ∙ length-map gs bytes_of in
    omega (arith, length-append before (g ∷ after))

-- what was given was taken, each
each_at : {A : Type 0} {P : A → Type 0} (before after : List A) (x : A) → Each P (before ++ (x ∷ after)) → P x
each_at [] after x (more a b) = a
each_at (y ∷ before) after x (more a b) = each_at before after x b

taken_writable : (v : Scalar) → Taken (scalar v) → writable v ≡ true
unfolding field_given scalar_given
taken_writable v q = (guarded (writable v) _ _ _ q).0

-- a scalar is the value that asking returns
scalar_asked : (s : List ℕ) (m : Reading) (gs before after : List Given) (v : Scalar) → reading no_table s ≡ fine m
    → map (own_bytes s) m.fields ≡ map bytes_of gs → Each Taken gs → gs ≡ before ++ (scalar v ∷ after) → Held v → value s (length before) ≡ fine v
unfolding value
scalar_asked s m gs before after v q e taken split held =
    let k = length before in
    let is : map (own_bytes s) m.fields ≡ map bytes_of (before ++ (scalar v ∷ after)) = e ∙ ap (map bytes_of) split in
    let found = (asking_agrees_with_reading s k).finds m q (nth_there (own_bytes s) m.fields before after (scalar v) is) in
    let f = found.0 in
    let own : own_bytes s f ≡ scalar_text v = nth_bytes (own_bytes s) m.fields before after (scalar v) f is (sym (asked_nth s k m q) ∙ found.1) in
    let may = taken_writable v (each_at before after (scalar v) (subst (Each Taken) split taken)) in
    rw found.1 (value_is_its_bytes s k f found.1 ∙ ap value_alone own ∙ scalar_back v may held)

-- what a finished point's message is, and what reading finds in it
pub reads_back : (o : Opening) (out : List ℕ) (p : Point) (t : List ℕ) → Known o out p → Finished p t → ReadsBack o p.given t
unfolding reading enough
reads_back o out p t k end =
    let h = k.head in
    let fs = k.fields.parts in
    let m : MessageParts = parts o (length out) h fs in
    let front = header_text o in
    let text = flat_map bytes_of p.given in
    let w = p.writer.written in
    let long : length (front ++ text) ≡ w = length-append front text ∙ sym k.holds.written in
    let cut : take w p.buffer ≡ front ++ text
    =
    ap (take w) (k.holds.buffer ∙ sym (append_assoc front text (drop w out)))
    ∙ take_at (front ++ text) (drop w out) w long in
    let whole : message_bytes m ≡ t
    =
    ap₂ (λ (a b : List ℕ). a ++ b) h.bytes (flat_same field_bytes bytes_of fs p.given k.fields.bytes)
    ∙ sym (end.bytes ∙ cut) in
    let many : o.fields ≡ length fs
    =
    sym k.holds.declared
    ∙ sym (k.full end.closed)
    ∙ k.holds.added
    ∙ sym (length-map p.given bytes_of)
    ∙ ap length (sym k.fields.bytes)
    ∙ length-map fs field_bytes in
    let is : IsMessage m = record { is_header = subst (λ (n : ℕ). IsHeader n m.header) many h.is; is_fields = k.fields.are } in
    let short : length (message_bytes m) ≤ limit
    = subst (λ (l : List ℕ). length l ≤ limit) (sym (whole ∙ end.bytes ∙ cut)) (subst (λ (n : ℕ). n ≤ limit) (sym long) k.short) in
    let q : reading no_table (message_bytes m) ≡ fine (cut_of m) = message_complete limit no_table m is short refl in
    let base = length (header_bytes m.header) in
    let rest : Stands (message_bytes m) base (flat_map field_bytes fs)
    = stands_to base (zero-add base) (stands_right (header_bytes m.header) (flat_map field_bytes fs) (stands_self (message_bytes m))) in
    let own : map (own_bytes (message_bytes m)) (cut_of m).fields ≡ map bytes_of p.given = own_fields_lem (message_bytes m) base fs rest ∙ k.fields.bytes in
    subst (ReadsBack o p.given) whole
    record {
      found = cut_of m;
      accepted = λ lent room. room_is_all_that_counts lent (message_bytes m) room ∙ q;
      header = header_said o (length out) h fs;
      fields = own;
      scalars = λ before after v split held. scalar_asked (message_bytes m) (cut_of m) p.given before after v q own k.fields.taken split held;
    }
