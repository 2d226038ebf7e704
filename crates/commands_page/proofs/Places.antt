-- The judge accepts exactly what the page allows.
use Prim.Native.Nat.{ℕ, zero, suc, ◌+◌, ◌-◌, ◌*◌, ◌<◌}
use mathlib.Core.Path.{◌≡◌, refl, ap, sym, ◌∙◌, subst}
use mathlib.Core.Bool.{Bool, true, false}
use mathlib.Core.List.{List, [], ◌∷◌}
use native.Mathlib.Omega.{arith}
use native.Mathlib.Nat.{not-suc-le-zero, le_of_suc-le-suc}
use lib.ListN.{length, get_or}
use lib.Dec.{leb, ltb, eqb}
use borrow.Author.Tests.{eqb-true, eq-eqb, ne_eqb, le-leb, ltb-true, lt-ltb}
use Rattle.sim0mq.specs.Answer.{fine, guard, byte, big, not_negative}
use Rattle.sim0mq.specs.Field.{Field}
use Rattle.sim0mq.specs.Message.{no_table, reading}
use Rattle.sim0mq.proofs.Answers.{guarded, guarded_bind, bind_fine, fine_eq, and_true, not_fine}
use Rattle.commands_page.specs.Page.{Want, Row, page, row_at}
use Rattle.commands_page.specs.Judging.{code_right, text_right, passes, want_in, each, no_field, turns_right, number_right, looks, number_at, fields_right, row_right, command_of, commanded}
use Rattle.commands_page.specs.Places.{TurnsAllowed, NumberAllowed, CommandAt}
use Rattle.commands_page.specs.Promises.{AcceptsByPlaces}
use Rattle.commands_page.proofs.PageLaws.{page_long}
use Rattle.commands_page.proofs.WordLaws.{number_only, number_word}

-- each field passes
abbrev Passes : List ℕ → Row → ℕ → ℕ → List Field → ℕ → Type 0
Passes s row k j fs i =
    passes k s (want_in row (j + i)) (get_or fs i no_field) ≡ true

each_all : (s : List ℕ) (row : Row) (k j : ℕ) (fs : List Field) {u : Unit {0}} → each s row k j fs ≡ fine u → (i : ℕ) → i < length fs → Passes s row k j fs i
unfolding each
each_all s row k j [] e i h = absurd (not-suc-le-zero h)
each_all s row k j (f ∷ fs) e zero h =
    let a = guarded_bind (passes k s (want_in row j) f) k f.place _ e in
    let z : j + 0 ≡ j = omega arith in
    ap (λ (n : ℕ). passes k s (want_in row n) f) z ∙ a.0
each_all s row k j (f ∷ fs) e (suc i) h =
    let a = guarded_bind (passes k s (want_in row j) f) k f.place _ e in
    let z : j + suc i ≡ j + 1 + i = omega arith in
    subst (λ (n : ℕ). passes k s (want_in row n) (get_or fs i no_field) ≡ true) (sym z)
    (each_all s row k (j + 1) fs a.1 i (le_of_suc-le-suc h))

all_each : (s : List ℕ) (row : Row) (k j : ℕ) (fs : List Field) → ((i : ℕ) → i < length fs → Passes s row k j fs i) → each s row k j fs ≡ fine tt
unfolding each
all_each s row k j [] h = refl
all_each s row k j (f ∷ fs) h =
    let z : j ≡ j + 0 = omega arith in
    let a : passes k s (want_in row j) f ≡ true
    = ap (λ (n : ℕ). passes k s (want_in row n) f) z ∙ h 0 (omega arith) in
    simp a (all_each s row k (j + 1) fs (λ i l. later i (h (suc i) (omega arith))))
  where
    later : (i : ℕ) → Passes s row k j (f ∷ fs) (suc i) → Passes s row k (j + 1) fs i
    later i e =
        let z : j + suc i ≡ j + 1 + i = omega arith in
        subst (λ (n : ℕ). passes k s (want_in row n) (get_or fs i no_field) ≡ true) z e

-- the number of fields
guard_true : (b : Bool) (k p : ℕ) {u : Unit {0}} → guard b k p ≡ fine u → b ≡ true
guard_true true k p e = refl
guard_true false k p e = absurd (not_fine e)

module _ (s : List ℕ) (kind : ℕ) (row : Row) (fs : List Field) where
  abbrev last_of : Field
  last_of = get_or fs (length row.fields - 1) no_field

  number_plain : row.turns ≡ [] → number_right s kind row fs ≡ guard (eqb (length fs) (length row.fields)) 21 kind
  unfolding number_right
  number_plain q = simp q

  number_turns : (t : Want) (ts : List Want) → row.turns ≡ t ∷ ts → number_right s kind row fs ≡ turns_right s kind row last_of (length fs)
  unfolding number_right
  number_turns t ts q =
      let l : length row.turns ≡ suc (length ts) = ap (λ (x : List Want). length x) q in
      simp (ne_eqb (length row.turns) 0 (λ z. omega arith))

  turns_sound : {u : Unit {0}} → turns_right s kind row last_of (length fs) ≡ fine u → TurnsAllowed s row last_of (length fs)
  unfolding turns_right
  turns_sound e =
      let a = guarded (leb (length row.fields) (length fs)) 21 kind _ e in
      let b = guarded (code_right s (want_in row (length row.fields - 1)) last_of) 22 last_of.place _ a.1 in
      let c = and_true (not_negative (byte s last_of.first)) _ (guard_true _ 21 kind b.1) in
      record { code = b.0; sign = c.0; many = eqb-true _ _ c.1 }

  turns_complete : TurnsAllowed s row last_of (length fs) → turns_right s kind row last_of (length fs) ≡ fine tt
  unfolding turns_right
  turns_complete h =
      let n = h.many in
      simp (le-leb (length row.fields) (length fs) (omega arith), h.code, h.sign, eq-eqb (length fs) (length row.fields + 2 * big s last_of.first 4) n)

  number_sound : {u : Unit {0}} → number_right s kind row fs ≡ fine u → NumberAllowed s row row.turns fs
  number_sound {u} e = go row.turns refl
    where
      go : (ts : List Want) → row.turns ≡ ts → NumberAllowed s row ts fs
      go [] q = eqb-true _ _ (guard_true (eqb (length fs) (length row.fields)) 21 kind (sym (number_plain q) ∙ e))
      go (t ∷ ts) q = turns_sound (sym (number_turns t ts q) ∙ e)

  number_complete : NumberAllowed s row row.turns fs → number_right s kind row fs ≡ fine tt
  number_complete h = go row.turns refl h
    where
      go : (ts : List Want) → row.turns ≡ ts → NumberAllowed s row ts fs → number_right s kind row fs ≡ fine tt
      go [] q h = number_plain q ∙ simp (eq-eqb (length fs) (length row.fields) h)
      go (t ∷ ts) q h = number_turns t ts q ∙ turns_complete h

-- the two tests
zero_more : (P : ℕ → Type 0) (i : ℕ) → P (0 + i) → P i
zero_more P i h = let z : 0 + i ≡ i = omega arith in subst P z h

zero_less : (P : ℕ → Type 0) (i : ℕ) → P i → P (0 + i)
zero_less P i h = let z : i ≡ 0 + i = omega arith in subst P z h

pub accepted : (s : List ℕ) (k : ℕ) → commanded s ≡ fine k → CommandAt s k
unfolding commanded command_of row_right fields_right passes
accepted s k e =
    let r = bind_fine (reading no_table s) _ e in
    let m = r.0 in
    let l = looks m.frames in
    let fs = m.fields in
    let a = guarded (eqb l.code 9) 20 l.kind _ r.2 in
    let b = guarded (ltb (number_at s l) (length page)) 20 l.kind _ a.1 in
    let j = number_at s l in
    let d = guarded (eqb (byte s l.status) (row_at j).status) 21 l.kind _ b.1 in
    let f = bind_fine (number_right s l.kind (row_at j) fs) _ d.1 in
    let g = bind_fine (each s (row_at j) 22 0 fs) _ f.2 in
    let i = bind_fine (each s (row_at j) 23 0 fs) _ g.2 in
    let below : j < length page = ltb-true j (length page) b.0 in
    subst (λ (x : ℕ). CommandAt s x) (fine_eq i.2)
    (record {
      reads = m;
      is_message = r.1;
      listed = below;
      is_command =
          record {
            string = eqb-true l.code 9 a.0;
            id = number_word s (l.kind + 5) (l.next - (l.kind + 5)) j below refl;
            status = eqb-true (byte s l.status) (row_at j).status d.0;
            number = number_sound s l.kind (row_at j) fs f.1;
            codes = λ n h. zero_more (λ (x : ℕ). code_right s (want_in (row_at j) x) (get_or fs n no_field) ≡ true) n (each_all s (row_at j) 22 0 fs g.1 n h);
            strings = λ n h. zero_more (λ (x : ℕ). text_right s (want_in (row_at j) x) (get_or fs n no_field) ≡ true) n (each_all s (row_at j) 23 0 fs i.1 n h);
          };
    })

pub allowed : (s : List ℕ) (k : ℕ) → CommandAt s k → commanded s ≡ fine k
unfolding commanded command_of row_right fields_right passes
allowed s k h =
    let m = h.reads in
    let l = looks m.frames in
    let fs = m.fields in
    let c = h.is_command in
    let below = h.listed in
    let long = page_long in
    let j : number_at s l ≡ k = number_only s (l.kind + 5) (l.next - (l.kind + 5)) k (omega arith) c.id in
    let codes : each s (row_at k) 22 0 fs ≡ fine tt
    = all_each s (row_at k) 22 0 fs (λ n w. zero_less (λ (x : ℕ). code_right s (want_in (row_at k) x) (get_or fs n no_field) ≡ true) n (c.codes n w)) in
    let strings : each s (row_at k) 23 0 fs ≡ fine tt
    = all_each s (row_at k) 23 0 fs (λ n w. zero_less (λ (x : ℕ). text_right s (want_in (row_at k) x) (get_or fs n no_field) ≡ true) n (c.strings n w)) in
    simp
    (h.is_message, eq-eqb l.code 9 c.string, j, lt-ltb k (length page) below, eq-eqb (byte s l.status) (row_at k).status c.status, number_complete s l.kind (row_at k) fs c.number, codes, strings)

pub accepts_by_places : AcceptsByPlaces
accepts_by_places s k = (accepted s k, allowed s k)
