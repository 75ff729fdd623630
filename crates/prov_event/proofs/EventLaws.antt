-- Events: what is read is encoded so, and what is encoded so is read again.
use Rattle.std.proofs.Common.{◌≡◌, ◌≢◌, ℕ, ◌^◌, ◌<◌, ◌≤◌, nat_le, Bool, true, false, cond, eqb, List, [], ◌∷◌, ◌++◌, length, Option, Some, None, Ok, IsTrue, refl, sym, ap, subst, ◌∙◌, append_assoc, arith}
use Rattle.std.specs.Int.{w64, to_be_bytes}
use Rattle.std.proofs.lemmas.Bool.{leb-true, le-leb, ne_eqb, eqb-true}
use Rattle.flowfile_record.specs.Encoding.{byte, text, long, numbers, IsNumber, IsText, IsLong, AreNumbers, IsDigest}
use Rattle.flowfile_record.specs.Events.{code_of}
use Rattle.flowfile_record.specs.Field.{Takes, IsField}
use Rattle.flowfile_record.specs.Reading.{◌then◌, byte_at, uint_at, raw_at, number_at, text_at, long_at, numbers_at}
use Rattle.flowfile_record.specs.declared.event.Event.{Event}
use Rattle.flowfile_record.specs.declared.event.EventKind.{EventKind}
use Rattle.flowfile_record.specs.declared.event.EventKind.TheVariants.{Create, Receive, Fork, Join, Clone, ContentModified, AttributesModified, Route, Send, Drop, Expire, Replay}
use Rattle.flowfile_record.specs.declared.limits.TheConstants.{DIGEST_SIZE}
use Rattle.flowfile_record.proofs.FieldLaws.{bind_ok, ok_is, pair_is, made_is, such_is, said_is, byte_is, u64_is, number_is, digest_is, text_is, long_is, numbers_is}
use Rattle.prov_event.specs.Encoding.{event, IsEvent}
use Rattle.prov_event.specs.EventReading.{all_kinds, of_code, known, kind_at, counted_number_at, front_at, back_at, event_at}

abbrev IsWord : ℕ → Type 0
IsWord n = n < 2 ^ 64

abbrev IsCountedNumber : ℕ → Type 0
IsCountedNumber n = IsNumber n × (1 ≤ n)

abbrev raw : List ℕ → List ℕ
raw digest = digest

counted_number_is : IsField counted_number_at (to_be_bytes w64) IsCountedNumber
unfolding counted_number_at
counted_number_is = said_is counted_number_at (to_be_bytes w64) (λ n. IsNumber n × IsTrue (nat_le 1 n)) IsCountedNumber (such_is (λ n. nat_le 1 n) number_at (to_be_bytes w64) IsNumber number_is)
    (λ n h. (h.0, leb-true 1 n h.1)) (λ n h. (h.0, le-leb 1 n h.1))

-- ---- kinds

abbrev some : EventKind → Option EventKind
some kind = Some kind

by_test : (code : ℕ) (first : EventKind) (others : Option EventKind) (kind : EventKind) (same : Bool) → eqb (code_of first) code ≡ same → (others ≡ some kind → code_of kind ≡ code)
    → cond same (some first) others ≡ some kind → code_of kind ≡ code
by_test code first others kind true is later found = let it : first ≡ kind = cc in subst (λ (k : EventKind). code_of k ≡ code) it (eqb-true _ _ is)
by_test code first others kind false is later found = later found

-- a kind that is found has the code
found_has_code : (code : ℕ) (kinds : List EventKind) (kind : EventKind) → of_code code kinds ≡ some kind → code_of kind ≡ code
found_has_code code [] kind e = absurd cc
found_has_code code (first ∷ others) kind e = by_test code first (of_code code others) kind (eqb (code_of first) code) refl (found_has_code code others kind) e

-- each kind is found by its code
pub each_is_found : (kind : EventKind) → of_code (code_of kind) all_kinds ≡ some kind
each_is_found Create = refl
each_is_found Receive = refl
each_is_found Fork = refl
each_is_found Join = refl
each_is_found Clone = refl
each_is_found ContentModified = refl
each_is_found AttributesModified = refl
each_is_found Route = refl
each_is_found Send = refl
each_is_found Drop = refl
each_is_found Expire = refl
each_is_found Replay = refl

-- another code is none of a kind
pub none_is_found : (code : ℕ) (kinds : List EventKind) → ((kind : EventKind) → code_of kind ≢ code) → of_code code kinds ≡ None
none_is_found code [] other = refl
none_is_found code (first ∷ others) other = rw (ne_eqb (code_of first) code (other first)) (none_is_found code others other)

pub is_found_by_code : (code : ℕ) (kind : EventKind) → code_of kind ≡ code → of_code code all_kinds ≡ some kind
is_found_by_code code kind e = ap (λ (n : ℕ). of_code n all_kinds) (sym e) ∙ each_is_found kind

known_is : (found : Option EventKind) (rest : List ℕ) (left : ℕ) (x : EventKind × List ℕ) → known found rest left ≡ Ok x → (found ≡ some x.0) × (rest ≡ x.1)
known_is (Some kind) rest left x e = let both = ok_is (kind, rest) x e in (ap (λ (p : EventKind × List ℕ). some p.0) both, ap (λ (p : EventKind × List ℕ). p.1) both)
known_is None rest left x e = absurd cc

abbrev IsKind : EventKind → Type 0
IsKind kind = Unit {0}

abbrev kind_byte : EventKind → List ℕ
kind_byte kind = byte (code_of kind)

code_fits : (kind : EventKind) → code_of kind < 2 ^ 8
code_fits Create = omega arith
code_fits Receive = omega arith
code_fits Fork = omega arith
code_fits Join = omega arith
code_fits Clone = omega arith
code_fits ContentModified = omega arith
code_fits AttributesModified = omega arith
code_fits Route = omega arith
code_fits Send = omega arith
code_fits Drop = omega arith
code_fits Expire = omega arith
code_fits Replay = omega arith

kind_is : IsField kind_at kind_byte IsKind
unfolding kind_at
kind_is = record {
  takes = λ bytes x fits e.
      let code = bind_ok (byte_at bytes) (λ code. known (of_code code.0 all_kinds) code.1 (length bytes)) x e in
      let took = byte_is.takes bytes code.0 fits code.1 in
      let kind = known_is (of_code code.0.0 all_kinds) code.0.1 (length bytes) x code.2 in
      let has = found_has_code code.0.0 all_kinds x.0 kind.0 in
      (subst (λ (rest : List ℕ). Takes bytes (kind_byte x.0) rest) kind.1 (subst (λ (n : ℕ). Takes bytes (byte n) code.0.1) (sym has) took.0), tt);
  again = λ kind rest has. rw (byte_is.again (code_of kind) rest (code_fits kind), each_is_found kind) refl;
}

-- ---- the event

abbrev FrontParts : Type 0
FrontParts = ℕ × (EventKind × (ℕ × (List ℕ × ℕ)))

abbrev BackParts : Type 0
BackParts = List ℕ × (ℕ × List ℕ)

abbrev front : FrontParts → List ℕ
front f = to_be_bytes w64 f.0 ++ (kind_byte f.1.0 ++ (to_be_bytes w64 f.1.1.0 ++ (text f.1.1.1.0 ++ to_be_bytes w64 f.1.1.1.1)))

abbrev back : BackParts → List ℕ
back b = long b.0 ++ (to_be_bytes w64 b.1.0 ++ b.1.1)

abbrev IsFront : FrontParts → Type 0
IsFront f = IsCountedNumber f.0 × (IsKind f.1.0 × (IsWord f.1.1.0 × (IsText f.1.1.1.0 × IsCountedNumber f.1.1.1.1)))

abbrev IsBack : BackParts → Type 0
IsBack b = IsLong b.0 × (IsWord b.1.0 × IsDigest b.1.1)

front_is : IsField front_at front IsFront
front_is =
    let three = pair_is text_at counted_number_at text (to_be_bytes w64) IsText IsCountedNumber text_is counted_number_is in
    let two = pair_is (uint_at w64) (text_at then counted_number_at) (to_be_bytes w64) _ IsWord _ u64_is three in
    let one = pair_is kind_at (uint_at w64 then text_at then counted_number_at) kind_byte _ IsKind _ kind_is two in
    pair_is counted_number_at (kind_at then uint_at w64 then text_at then counted_number_at) (to_be_bytes w64) _ IsCountedNumber _ counted_number_is one

back_is : IsField back_at back IsBack
back_is =
    let one = pair_is (uint_at w64) (raw_at DIGEST_SIZE) (to_be_bytes w64) raw IsWord IsDigest u64_is digest_is in
    pair_is long_at (uint_at w64 then raw_at DIGEST_SIZE) long _ IsLong _ long_is one

abbrev EventParts : Type 0
EventParts = FrontParts × (List ℕ × (List ℕ × BackParts))

regroup : (a b c d e f g h i j : List ℕ) → a ++ b ++ c ++ d ++ e ++ f ++ g ++ h ++ i ++ j ≡ (a ++ (b ++ (c ++ (d ++ e)))) ++ (f ++ (g ++ (h ++ (i ++ j))))
regroup a b c d e f g h i j = simp append_assoc

event_parts : Event → EventParts
event_parts e = ((e.number, (e.kind, (e.moment, (e.component, e.file)))), (e.parents, (e.children, (e.detail, (e.size, e.digest)))))

pub event_is : IsField event_at event IsEvent
unfolding event_at event event_parts
event_is =
    let three = pair_is numbers_at back_at numbers back AreNumbers IsBack numbers_is back_is in
    let two = pair_is numbers_at (numbers_at then back_at) numbers _ AreNumbers _ numbers_is three in
    let one = pair_is front_at (numbers_at then numbers_at then back_at) front _ IsFront _ front_is two in
    made_is
    (λ e. record {
      number = e.0.0;
      kind = e.0.1.0;
      moment = e.0.1.1.0;
      component = e.0.1.1.1.0;
      file = e.0.1.1.1.1;
      parents = e.1.0;
      children = e.1.1.0;
      detail = e.1.1.1.0;
      size = e.1.1.1.1.0;
      digest = e.1.1.1.1.1;
    })
    event_parts
    (front_at then numbers_at then numbers_at then back_at)
    _
    event
    _
    IsEvent
    one
    (λ e. refl)
    (λ e. regroup (to_be_bytes w64 e.0.0) (kind_byte e.0.1.0) (to_be_bytes w64 e.0.1.1.0) (text e.0.1.1.1.0) (to_be_bytes w64 e.0.1.1.1.1) (numbers e.1.0) (numbers e.1.1.0) (long e.1.1.1.0) (to_be_bytes w64 e.1.1.1.1.0) e.1.1.1.1.1)
    (λ e h. record {
      first_number = h.0.0.1;
      number = h.0.0.0;
      moment = h.0.1.1.0;
      component = h.0.1.1.1.0;
      first_file = h.0.1.1.1.1.1;
      file = h.0.1.1.1.1.0;
      parents = h.1.0;
      children = h.1.1.0;
      detail = h.1.1.1.0;
      size = h.1.1.1.1.0;
      digest = h.1.1.1.1.1;
    })
    (λ e h. (((h.number, h.first_number), (tt, (h.moment, (h.component, (h.file, h.first_file))))), (h.parents, (h.children, (h.detail, (h.size, h.digest))))))
