-- The promises hold since the value of a field turns on its code and its bytes alone.
use Prim.Native.Nat.{ℕ, ◌+◌, ◌-◌}
use mathlib.Core.Path.{◌≡◌, refl, ap, sym, ◌∙◌, subst}
use native.Mathlib.Omega.{arith}
use lib.ListN.{length, take, drop}
use Rattle.sim0mq.specs.Answer.{Answer, fine, refused, ◌>>=◌}
use Rattle.sim0mq.specs.Field.{Field, after, field}
use Rattle.sim0mq.specs.Allowed.{field_bytes}
use Rattle.sim0mq.proofs.Stands.{stands_self, part_back}
use Rattle.sim0mq.proofs.FieldLaws.{field_at, after_at, field_complete}
use Rattle.asking.proofs.PartLaws.{asked_parts}
use Rattle.asking_scalars.specs.Scalars.{scalar_of, value}
use Rattle.asking_scalars.specs.Promises.{ValueAgreesWithAsking, NotANumberExactly, own_bytes, ValueIsItsBytes, ValueGivesBackItsBytes}
use Rattle.sim0mq_kinds.specs.declared.Scalar.TheVariants.{NotNumber}
use Rattle.asking_scalars.proofs.AloneLaws.{value_alone_lem}
use Rattle.asking_scalars.proofs.BackLaws.{value-back}
use Rattle.asking_scalars.proofs.NotNumbers.{nan_only, nan_always}
use Rattle.asking_scalars.proofs.ReadCases.{read_as}
use Rattle.asking_scalars.proofs.StandingLaws.{asked_standing}
use Rattle.asking_scalars.proofs.ValueLaws.{seventeen_only, seventeen_always, value_found}

-- asking for the field, and then the tests of its code
pub value_agrees_with_asking : ValueAgreesWithAsking
unfolding value
value_agrees_with_asking s k =
    record {
      refuses = λ number place q. rw q refl;
      seventeen =
          λ place.
          (seventeen_only s k place, λ h. seventeen_always s k h.0.0 h.0.1 h.0.2 ∙ ap (λ (p : ℕ). refused 17 p) (sym h.1));
      finds = value_found s k;
    }

-- only the four codes of floats and doubles are put to the test
pub not_a_number_exactly : NotANumberExactly
not_a_number_exactly s f c = (
  λ e. nan_only s f c (read_as s f (NotNumber c) e),
  λ h. nan_always s f h.1 ∙ ap (λ (k : ℕ). fine (NotNumber k)) (sym h.0),
)

-- the field's parts are the same where they stand and by themselves
pub value_is_its_bytes : ValueIsItsBytes
unfolding after
value_is_its_bytes s k f q =
    let x = asked_parts s k f q in
    let p = x.parts in
    let l = field_bytes p in
    let end : f.first + f.size ≡ f.place + length l = ap after x.says ∙ after_at f.place p in
    let long : f.first + f.size - f.place ≡ length l = omega arith in
    let own : own_bytes s f ≡ l = ap (λ (n : ℕ). take n (drop f.place s)) long ∙ part_back l x.there in
    let judged : field l 0 ≡ fine (field_at 0 p) = field_complete p x.is (stands_self l) in
    let code : p.code ≡ f.code = sym (ap (λ (g : Field). g.code) x.says) in
    let first : f.first ≡ f.place + (field_at 0 p).first = ap (λ (g : Field). g.first) x.says ∙ omega arith in
    rw (own, judged) (value_alone_lem s l f (field_at 0 p) (asked_standing s k f q) x.there code refl first end)

-- the field's code says how its bytes were read, and each way of reading is undone by writing
pub value_gives_back_its_bytes : ValueGivesBackItsBytes
unfolding value
value_gives_back_its_bytes s k f v bytes e q other =
    let scalar : scalar_of s f ≡ fine v = subst (λ (a : Answer Field). (a >>= scalar_of s) ≡ fine v) q e in
    value-back s bytes k f q v (read_as s f v scalar) other
