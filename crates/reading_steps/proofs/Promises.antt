-- Request 10 holds of the definitions: every step has two bytes of the payload (SizeLaws), a field with more than one
-- mark seven more, and a message whose one field is all marks takes as many steps as its length allows (SlowestLaws).
use Prim.Native.Nat.{ℕ, ◌+◌, ◌-◌, ◌*◌, ◌/◌, ◌%◌, ◌≤◌, ◌<◌}
use mathlib.Core.Path.{◌≡◌, refl, sym, ◌∙◌, subst}
use mathlib.Core.Bool.{Bool, true, false, cond}
use mathlib.Core.Logic.{◌⊎◌, inl, inr}
use mathlib.Core.List.{flat_map}
use native.Mathlib.Omega.{arith}
use lib.ListN.{length}
use lib.Dec.{ltb, eqb}
use borrow.Author.Tests.{leb-true, ltb-true, ltb-false, le-ltb, eqb-true, eqb-false}
use Rattle.sim0mq.specs.Field.{Field}
use Rattle.sim0mq.specs.Header.{most_fields, fields_taken}
use Rattle.sim0mq.specs.Message.{limit, no_table, enough, Reading, steps_of, reading}
use Rattle.sim0mq.specs.Allowed.{Each, field_bytes, header_bytes, message_bytes}
use Rattle.sim0mq.specs.Demand2.{marks_in}
use Rattle.sim0mq.proofs.MessageLaws.{cut_of, message_complete}
use Rattle.reading_steps.specs.Ceiling.{ceiling, least_header, columns_head, long_message, most_steps}
use Rattle.reading_steps.specs.Promises.{StepsHaveACeiling, ByteFieldsReachTheCeiling, LengthBoundsTheSteps, Slowest, LongMessagesReachIt, WorstCase}
use Rattle.reading_steps.proofs.SizeLaws.{cut_steps, payload_long, few_or_seven, byte_fields, codes_back, header_long, measured, payload_bytes}
use Rattle.reading_steps.proofs.SlowestLaws.{slowest, slowest_is, header_size, slowest_long, slowest_bytes, slowest_steps}

pub steps_have_a_ceiling : StepsHaveACeiling
steps_have_a_ceiling lent s m h q r =
    let x = measured lent s m q in
    let counted = x.counted in
    omega (arith, payload_bytes h x r, payload_long x.parts.fields x.is.is_fields)

pub byte_fields_reach_the_ceiling : ByteFieldsReachTheCeiling
byte_fields_reach_the_ceiling lent s m h q r each =
    let x = measured lent s m q in
    let counted = x.counted in
    let at = length (header_bytes x.parts.header) in
    let codes = codes_back at x.parts.fields (subst (λ (y : Reading). Each (λ (f : Field). f.code ≡ 0) y.fields) x.says each) in
    omega (arith, payload_bytes h x r, byte_fields x.parts.fields x.is.is_fields codes)

-- by the length: two bytes for each step beside the header; of a long message seven more, or there are few steps
bounded : (n steps fields marks header payload : ℕ) → steps ≡ 8 + (fields + marks) → n ≡ header + payload → least_header ≤ header
    → fields ≤ most_fields → 2 * (fields + marks) ≤ payload
    → (marks ≤ fields) ⊎ (2 * (fields + marks) + (columns_head - 2) ≤ payload) → steps ≤ most_steps n
bounded n steps fields marks header payload counted long least most two rest = go (ltb n long_message) refl rest
  where
    go : (t : Bool) → ltb n long_message ≡ t → (marks ≤ fields) ⊎ (2 * (fields + marks) + (columns_head - 2) ≤ payload)
        → steps ≤ cond t (ceiling (n - least_header)) (ceiling (n - least_header - (columns_head - 2)))
    go true e r = omega arith
    go false e (inl few) = let l = ltb-false n long_message e in omega arith
    go false e (inr seven) = omega arith

pub length_bounds_the_steps : LengthBoundsTheSteps
unfolding fields_taken
length_bounds_the_steps lent s m q =
    let x = measured lent s m q in
    let fs = x.parts.fields in
    bounded (length s) (steps_of m) (length fs) (marks_in fs) (length (header_bytes x.parts.header)) (length (flat_map field_bytes fs))
    x.counted x.long (header_long (length fs) x.parts.header x.is.is_header) (leb-true _ most_fields x.is.is_header.taken)
    (payload_long fs x.is.is_fields) (few_or_seven fs x.is.is_fields)

-- the message of k marks takes 9 steps and k, and is read where it is within the limit
slow : (wide : Bool) (k n : ℕ) → header_size wide + 9 + 2 * k ≡ n → n ≤ limit → k < 65536 → 9 + k ≡ most_steps n → Slowest n
unfolding reading enough
slow wide k n long short few steps =
    let p = slowest wide k in
    let size = slowest_long wide k in
    let read = message_complete limit no_table p (slowest_is wide k) (omega arith) refl in
    let taken : steps_of (cut_of p) ≡ 9 + k = omega (arith, cut_steps p, slowest_steps wide k) in
    record {
      bytes = message_bytes p;
      each_byte = slowest_bytes wide k few;
      long = size ∙ long;
      found = cut_of p;
      accepted = read;
      steps = taken ∙ steps;
    }

pub long_messages_reach_it : LongMessagesReachIt
unfolding limit
long_messages_reach_it n long short = go (eqb (n % 2) 0) refl
  where
    most : most_steps n ≡ ceiling (n - least_header - (columns_head - 2))
    most = rw (le-ltb n long_message long)

    go : (t : Bool) → eqb (n % 2) 0 ≡ t → Slowest n
    go true e =
        let even = eqb-true (n % 2) 0 e in
        let steps : 9 + (n - 44) / 2 ≡ ceiling (n - least_header - (columns_head - 2)) = omega arith in
        slow false ((n - 44) / 2) n (omega arith) short (omega arith) (steps ∙ sym most)
    go false e =
        let odd = eqb-false (n % 2) 0 e in
        let steps : 9 + (n - 45) / 2 ≡ ceiling (n - least_header - (columns_head - 2)) = omega arith in
        slow true ((n - 45) / 2) n (omega arith) short (omega arith) (steps ∙ sym most)

-- the bound grows with the length, but for the step where the message becomes a long one, which is below the last
grows : (n : ℕ) → n ≤ limit → most_steps n ≤ most_steps limit
unfolding limit
grows n short = go (ltb n long_message) refl
  where
    go : (t : Bool) → ltb n long_message ≡ t
        → cond t (ceiling (n - least_header)) (ceiling (n - least_header - (columns_head - 2))) ≤ most_steps limit
    go true e = let l = ltb-true n long_message e in omega arith
    go false e = omega arith

pub worst_case : WorstCase
unfolding limit
worst_case =
    record {
      bound = λ lent s m q.
          let here = length_bounds_the_steps lent s m q in
          let last = grows (length s) (measured lent s m q).short in
          omega arith;
      reached = long_messages_reach_it limit (omega arith) (omega arith);
      number = refl;
    }
