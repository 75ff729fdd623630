-- What the bytes that are read without memory tell of a block.
use Rattle.std.proofs.Common.{◌≡◌, ◌≢◌, ◌==◌, ◌&&◌, ◌||◌, ℕ, ◌+◌, ◌<◌, ◌≤◌, min, nat_lt, ltb, eqb, cond, Bool, true, false, List, [], ◌∷◌, length, take, drop, Result, Ok, Err, Option, None, Some, get_or, subst, refl, sym, ap, ◌∙◌, inl, inr, arith, is_ok}
use Rattle.std.specs.Int.{Width, w16, w64, byte_len, from_be_bytes}
use Rattle.std.proofs.lemmas.Bool.{cases_lt, ltb-false, le-ltb, eqb-true, and_parts, true≢false}
use Rattle.std.proofs.lemmas.Bool.Decides.{nat_tests}
use Rattle.std.proofs.lemmas.List.{length-drop, length-take, take-take, take_all}
use Rattle.flowfile_record.specs.Field.{IsBytes}
use Rattle.flowfile_record.specs.Reading.{Reading, ◌>>=◌, ◌then◌, made, such, whole, byte_at, uint_at, raw_at, number_at, first_at, text_at}
use Rattle.flowfile_record.specs.Stored.{Kept}
use Rattle.flowfile_record.specs.declared.error.CodecError.{CodecError}
use Rattle.flowfile_record.specs.declared.error.CodecError.TheVariants as codec
use Rattle.flowfile_record.specs.declared.limits.TheConstants.{STORE_LIMIT}
use Rattle.flowfile_record.specs.declared.stored.SwapBatch.{SwapBatch}
use Rattle.flowfile_record.proofs.FieldLaws.{bind_ok, guard_fails, guard_holds, ok_is, whole_takes}
use Rattle.record_codec.specs.SnapshotReading.{batch_at, ending_at}
use Rattle.record_codec.specs.StoreHeadReading.{store_at, head_at, connected_at, first_processor_at, first_count_at, head_takes_memory}
use Rattle.record_codec.specs.Texts.{texts_at}
use Rattle.record_codec.specs.StoreHead.{head, IsHead}
use Rattle.record_codec.specs.Version.{is_version, version_at}
use Rattle.record_codec.proofs.Fronts.{then_ok}
use Rattle.record_codec.proofs.StoreHeads.{HasFront, front_of_head, head_is}
use Rattle.record_codec.specs.declared.head.Head.{Head}
use Rattle.checkpoint_store.specs.Memory.{head_front_at}
use Rattle.checkpoint_store.specs.Unfit.{unfit_of}
use Rattle.checkpoint_store.specs.declared.so_far.Unfit.TheVariants as unfit
use Rattle.checkpoint_store.specs.Reading.{Next, are_distinct_names, has_counters, has_counts, kept_of_head, batch_next, end_next, head_next, first_block_kept, next_in}

-- ---- how many bytes a reading takes

abbrev Uses : {A : Type 0} → ℕ → Reading A → Type 0
Uses {A = A} n read = (bytes : List ℕ) (x : A × List ℕ) → read bytes ≡ Ok x → length bytes ≡ n + length x.1

byte_uses : Uses 1 byte_at
unfolding byte_at
byte_uses [] x e = absurd cc
byte_uses (b ∷ rest) x e = omega (arith, ap (λ (y : ℕ × List ℕ). length y.1) (ok_is (b, rest) x e))

uint_uses : (w : Width) → Uses (byte_len w) (uint_at w)
unfolding uint_at
uint_uses w bytes x e =
    let g = guard_fails (ltb (length bytes) (byte_len w)) (length bytes) (from_be_bytes w (take (byte_len w) bytes), drop (byte_len w) bytes) x e in
    let long : byte_len w ≤ length bytes = ltb-false _ _ g.0 in
    omega (arith, length-drop (byte_len w) bytes, ap (λ (y : ℕ × List ℕ). length y.1) g.1)

raw_uses : (size : ℕ) → Uses size (raw_at size)
unfolding raw_at
raw_uses size bytes x e =
    let g = guard_fails (ltb (length bytes) size) (length bytes) (take size bytes, drop size bytes) x e in
    let long : size ≤ length bytes = ltb-false _ _ g.0 in
    omega (arith, length-drop size bytes, ap (λ (y : List ℕ × List ℕ). length y.1) g.1)

such_uses : {A : Type 0} (n : ℕ) (test : A → Bool) (read : Reading A) → Uses n read → Uses n (such test read)
such_uses {A = A} n test read uses bytes x e =
    let a = bind_ok (read bytes) (λ a. cond (test a.0) (Ok a) (Err (length bytes))) x e in
    let g = guard_holds (test a.0.0) (length bytes) a.0 x a.2 in
    uses bytes a.0 a.1 ∙ ap (λ (y : A × List ℕ). n + length y.1) g.1

then_uses : {A B : Type 0} (n m : ℕ) (first : Reading A) (second : Reading B) → Uses n first → Uses m second → Uses (n + m) (first then second)
then_uses {A = A} {B = B} n m first second uses later bytes x e =
    let a = bind_ok (first bytes) (λ a. second a.1 >>= λ b. Ok ((a.0, b.0), b.1)) x e in
    let b = bind_ok (second a.0.1) (λ b. Ok ((a.0.0, b.0), b.1)) x a.2 in
    omega (arith, uses bytes a.0 a.1, later a.0.1 b.0 b.1, ap (λ (y : (A × B) × List ℕ). length y.1) (ok_is ((a.0.0, b.0.0), b.0.1) x b.2))

made_uses : {A B : Type 0} (n : ℕ) (make : A → B) (read : Reading A) → Uses n read → Uses n (made make read)
made_uses {B = B} n make read uses bytes x e =
    let a = bind_ok (read bytes) (λ a. Ok (make a.0, a.1)) x e in
    uses bytes a.0 a.1 ∙ ap (λ (y : B × List ℕ). n + length y.1) (ok_is (make a.0.0, a.0.1) x a.2)

whole_uses : {A : Type 0} (n : ℕ) (read : Reading A) → Uses n read → (bytes : List ℕ) (a : A) → whole read bytes ≡ Ok a → length bytes ≡ n
whole_uses n read uses bytes a e =
    let b = bind_ok (read bytes) (λ x. cond (eqb (length x.1) 0) (Ok x.0) (Err (length x.1))) a e in
    let g = guard_holds (eqb (length b.0.1) 0) (length b.0.1) b.0.0 a b.2 in
    omega (arith, uses bytes b.0 b.1, eqb-true _ _ g.0)

number_uses : Uses 8 number_at
unfolding number_at
number_uses = such_uses 8 _ (uint_at w64) (uint_uses w64)

batch_uses : Uses 34 batch_at
unfolding batch_at
batch_uses = made_uses 34 _ _ (then_uses 2 32 _ _ (uint_uses w16) (then_uses 8 24 _ _ number_uses (then_uses 8 16 _ _ number_uses (then_uses 8 8 _ _ (uint_uses w64) (uint_uses w64)))))

version_uses : Uses 1 version_at
unfolding version_at
version_uses = such_uses 1 _ byte_at byte_uses

front_uses : (version : ℕ) → Uses 41 (head_front_at version)
unfolding store_at
front_uses version = then_uses 1 40 _ _ (such_uses 1 _ version_at version_uses) (then_uses 8 32 _ _ (such_uses 8 _ (uint_at w64) (uint_uses w64)) (raw_uses 32))

-- ---- a block that is longer than any batch

batch_none : (k : Kept) (read : Result SwapBatch ℕ) → ((b : SwapBatch) → read ≡ Ok b → ⊥) → batch_next k read ≡ None
batch_none k (Ok b) none = absurd (none b refl)
batch_none k (Err left) none = refl

end_none : (k : Kept) (read : Result ℕ ℕ) → ((n : ℕ) → read ≡ Ok n → ⊥) → end_next k read ≡ None
end_none k (Ok n) none = absurd (none n refl)
end_none k (Err left) none = refl

neither : (a b : Bool) (x y : Option Next) → x ≡ None → y ≡ None → cond a x (cond b y None) ≡ None
neither true b x y first second = first
neither false true x y first second = second
neither false false x y first second = refl

-- it is a file, or says nothing
pub long_is_file : (k : Kept) (kind : ℕ) (payload : List ℕ) → kind ≢ 11 → 34 < length payload → next_in k kind payload ≡ None
long_is_file k kind payload apart long =
    let file : (kind == 11) ≡ false = grind (arith, nat_tests, apart) in
    let batch : batch_next k (whole batch_at payload) ≡ None = batch_none k (whole batch_at payload) (λ b e. omega (arith, whole_uses 34 batch_at batch_uses payload b e)) in
    let end : end_next k (whole ending_at payload) ≡ None = end_none k (whole ending_at payload) (λ n e. omega (arith, whole_uses 8 ending_at (uint_uses w64) payload n e)) in
    rw file (neither (kind == 12) (kind == 13) _ _ batch end)

-- ---- a Head up to its lists

ok_made : {A B : Type 0} (r : Result A ℕ) (f : A → B) → is_ok (r >>= λ a. Ok (f a)) ≡ is_ok r
ok_made (Ok a) f = refl
ok_made (Err left) f = refl

ok_guard : {A B : Type 0} (test : Bool) (a : A) (left : ℕ) (f : A → Result B ℕ) → is_ok (cond test (Ok a) (Err left) >>= f) ≡ (test && is_ok (f a))
ok_guard true a left f = refl
ok_guard false a left f = refl

-- a field and another one behind it
abbrev behind : {A B : Type 0} → Result (A × List ℕ) ℕ → Reading B → Result ((A × B) × List ℕ) ℕ
behind r second = do
  a ← r
  b ← second a.1
  Ok ((a.0, b.0), b.1)

ok_behind : {A B : Type 0} (a : A) (rest : List ℕ) (second : Reading B) → is_ok (behind (Ok (a, rest)) second) ≡ is_ok (second rest)
ok_behind {A = A} {B = B} a rest second =
    let pair : B × List ℕ → (A × B) × List ℕ = λ b. ((a, b.0), b.1) in
    ok_made (second rest) pair

ok_later : {A B C : Type 0} (r : Result (A × List ℕ) ℕ) (s : Reading B) (t : Reading C) → ((bytes : List ℕ) → is_ok (s bytes) ≡ true → is_ok (t bytes) ≡ true)
    → is_ok (behind r s) ≡ true → is_ok (behind r t) ≡ true
ok_later (Ok a) s t each e = ok_behind a.0 a.1 t ∙ each a.1 (sym (ok_behind a.0 a.1 s) ∙ e)
ok_later (Err left) s t each e = absurd cc

ok_first : {A B : Type 0} (r : Result (A × List ℕ) ℕ) (s : Reading B) → is_ok (behind r s) ≡ true → is_ok r ≡ true
ok_first (Ok a) s e = refl
ok_first (Err left) s e = absurd cc

-- what stands before the lists can be read where more can
abbrev any_front : Reading (ℕ × (ℕ × List ℕ))
any_front = version_at then store_at then raw_at 32

front_first : {A : Type 0} (lists : Reading A) (bytes : List ℕ) → is_ok ((version_at then store_at then raw_at 32 then lists) bytes) ≡ true → is_ok (any_front bytes) ≡ true
front_first lists bytes = ok_later (version_at bytes) (store_at then raw_at 32 then lists) (store_at then raw_at 32) (λ rest. ok_later (store_at rest) (raw_at 32 then lists) (raw_at 32) (λ last. ok_first (raw_at 32 last) lists))

ok_before : {A B : Type 0} (r : Result A ℕ) (f : A → Result B ℕ) → is_ok (r >>= f) ≡ true → is_ok r ≡ true
ok_before (Ok a) f e = refl
ok_before (Err left) f e = absurd cc

or_cases : {P : Type 0} (a b : Bool) → (a ≡ true → P) → (b ≡ true → P) → (a || b) ≡ true → P
or_cases true b first second e = first refl
or_cases false b first second e = second e

lists_take_any : (bytes : List ℕ) → head_takes_memory bytes ≡ true → is_ok (any_front bytes) ≡ true
lists_take_any bytes = or_cases (is_ok ((version_at then store_at then raw_at 32 then first_at text_at) bytes) || is_ok (first_processor_at bytes)) (is_ok (first_count_at bytes))
    (or_cases (is_ok ((version_at then store_at then raw_at 32 then first_at text_at) bytes)) (is_ok (first_processor_at bytes)) (front_first (first_at text_at) bytes)
    (λ e. front_first texts_at bytes (ok_before (connected_at bytes) _ e)))
    (λ e. front_first texts_at bytes (ok_before (connected_at bytes) _ e))

-- a version's field that is asked for
same_version : (v : ℕ) → (v == v) ≡ true
same_version v = grind (arith, nat_tests)

guarded : {A B : Type 0} (test : Bool) (a : A) (rest : List ℕ) (left : ℕ) (second : Reading B) → is_ok (behind (cond test (Ok (a, rest)) (Err left)) second) ≡ (test && is_ok (second rest))
guarded true a rest left second = ok_behind a rest second
guarded false a rest left second = refl

abbrev asked : ℕ → ℕ → ℕ × List ℕ → Result (ℕ × List ℕ) ℕ
asked version left a = cond (a.0 == version) (Ok a) (Err left)

twice_guarded : {B : Type 0} (known : Bool) (version b : ℕ) (rest : List ℕ) (left : ℕ) (second : Reading B) → is_ok (behind (cond known (Ok (b, rest)) (Err left) >>= asked version left) second) ≡ (known && ((b == version) && is_ok (second rest)))
twice_guarded true version b rest left second = guarded (b == version) b rest left second
twice_guarded false version b rest left second = refl

any_of : (b : ℕ) (rest : List ℕ) → is_ok (any_front (b ∷ rest)) ≡ (is_version b && is_ok ((store_at then raw_at 32) rest))
unfolding version_at byte_at
any_of b rest = guarded (is_version b) b rest (length (b ∷ rest)) (store_at then raw_at 32)

front_of : (version b : ℕ) (rest : List ℕ) → is_ok (head_front_at version (b ∷ rest)) ≡ (is_version b && ((b == version) && is_ok ((store_at then raw_at 32) rest)))
unfolding version_at byte_at
front_of version b rest = twice_guarded (is_version b) version b rest (length (b ∷ rest)) (store_at then raw_at 32)

none_read : is_ok (any_front []) ≡ false
unfolding version_at byte_at
none_read = refl

pub lists_take : (version : ℕ) (bytes : List ℕ) → get_or bytes 0 0 ≡ version → head_takes_memory bytes ≡ true → is_ok (head_front_at version bytes) ≡ true
lists_take version [] first takes = absurd (true≢false (sym (lists_take_any [] takes) ∙ none_read))
lists_take version (b ∷ rest) first takes =
    let asked_for : (b == version) ≡ true = ap (λ (v : ℕ). b == v) (sym first) ∙ same_version b in
    front_of version b rest ∙ rw asked_for refl ∙ sym (any_of b rest) ∙ lists_take_any (b ∷ rest) takes

some_ok : {A : Type 0} (r : Result A ℕ) → is_ok r ≡ true → (a : A) × (r ≡ Ok a)
some_ok (Ok a) e = (a, refl)
some_ok (Err left) e = absurd cc

ok_true : {A : Type 0} (r : Result A ℕ) (a : A) → r ≡ Ok a → is_ok r ≡ true
ok_true r a e = rw e refl

-- all of a Head can be read only where that can
version_read : (version : ℕ) (bytes rest : List ℕ) → version_at bytes ≡ Ok (version, rest) → such (λ v. v == version) version_at bytes ≡ Ok (version, rest)
version_read version bytes rest e =
    let same = same_version version in
    ap (λ (r : Result (ℕ × List ℕ) ℕ). r >>= asked version (length bytes)) e ∙ rw same refl

head_front : (payload : List ℕ) (h : Head) → whole head_at payload ≡ Ok h → is_ok (head_front_at h.version payload) ≡ true
head_front payload h e =
    let b = bind_ok (head_at payload) (λ x. cond (eqb (length x.1) 0) (Ok x.0) (Err (length x.1))) h e in
    let g = guard_holds (eqb (length b.0.1) 0) (length b.0.1) b.0.0 h b.2 in
    subst (λ (y : Head). is_ok (head_front_at y.version payload) ≡ true) g.1 (of_front payload b.0.0.version (front_of_head payload b.0 b.1))
  where
    of_front : (payload : List ℕ) (version : ℕ) → HasFront payload version → is_ok (head_front_at version payload) ≡ true
    of_front payload version has =
        then_ok (such (λ v. v == version) version_at) (store_at then raw_at 32) payload version has.rest (version_read version payload has.rest has.version_read)
        (then_ok store_at (raw_at 32) has.rest has.store.0 has.store.1 has.store_read (ok_true (raw_at 32 has.store.1) has.flow has.flow_read))

rule_of : (same names counters counts : Bool) → (same && names && counters && counts) ≡ true → same ≡ true
rule_of true names counters counts e = refl
rule_of false names counters counts e = absurd cc

some_under : (test : Bool) (x k : Kept) → cond test (Some x) None ≡ Some k → test ≡ true
some_under true x k e = refl
some_under false x k e = absurd cc

head_known : (version : ℕ) (read : Result Head ℕ) (k : Kept) → head_next version read ≡ Some k → (h : Head) × (read ≡ Ok h) × (h.version ≡ version)
head_known version (Ok h) k e =
    let rules = some_under _ (kept_of_head h) k e in
    (h, refl, eqb-true h.version version (rule_of (h.version == version) (are_distinct_names h.connections) (has_counters h) (has_counts h) rules))
head_known version (Err left) k e = absurd cc

-- what the first block says stands in a Head
first_known : (version : ℕ) (head : Bool) (read : Result Head ℕ) (k : Kept) → cond head (head_next version read) None ≡ Some k → (head ≡ true) × ((h : Head) × (read ≡ Ok h) × (h.version ≡ version))
first_known version true read k e = (refl, head_known version read k e)
first_known version false read k e = absurd cc

pub first_size : (version kind : ℕ) (payload : List ℕ) (k : Kept) → first_block_kept version kind payload ≡ Some k → 41 ≤ length payload
first_size version kind payload k e =
    let known = first_known version (kind == 10) (whole head_at payload) k e in
    let h = known.1.0 in
    let front = some_ok (head_front_at h.version payload) (head_front payload h known.1.1) in
    omega (arith, front_uses h.version payload front.0 front.1)

-- a Head of another version, and one that doesn't hold its rules
pub head_refused : (version : ℕ) (read : Result Head ℕ) → ((h : Head) → read ≡ Ok h → h.version ≢ version) → head_next version read ≡ None
head_refused version (Ok h) other =
    let apart = other h refl in
    let tested : (h.version == version) ≡ false = grind (arith, nat_tests, apart) in
    rw tested refl
head_refused version (Err left) other = refl

abbrev rules : Head → Bool
rules h = are_distinct_names h.connections && has_counters h && has_counts h

rules_alone : (same names counters counts : Bool) → same ≡ true → (same && names && counters && counts) ≡ (names && counters && counts)
rules_alone same names counters counts e = rw e refl

of_version : (version : ℕ) (h : Head) → h.version ≡ version → head_next version (Ok h) ≡ cond (rules h) (Some (kept_of_head h)) None
of_version version h is =
    let tested : (h.version == version) ≡ true = grind (arith, nat_tests, is) in
    ap (λ (b : Bool). kept_if b h) (rules_alone (h.version == version) (are_distinct_names h.connections) (has_counters h) (has_counts h) tested)
  where
    kept_if : Bool → Head → Option Kept
    kept_if b h = cond b (Some (kept_of_head h)) None

pub head_says : (version : ℕ) (read : Result Head ℕ) (h : Head) → read ≡ Ok h → h.version ≡ version → rules h ≡ true → head_next version read ≡ Some (kept_of_head h)
head_says version read h e is sound = ap (head_next version) e ∙ of_version version h is ∙ rw sound refl

pub head_breaks : (version : ℕ) (read : Result Head ℕ) (h : Head) → read ≡ Ok h → h.version ≡ version → rules h ≡ false → head_next version read ≡ None
head_breaks version read h e is unsound = ap (head_next version) e ∙ of_version version h is ∙ rw unsound refl

either : (a : Bool) (x : Option Kept) → x ≡ None → cond a x None ≡ None
either true x none = none
either false x none = refl

-- bytes that aren't a Head's of this version up to the lists
pub front_refused : (version kind : ℕ) (payload : List ℕ) → is_ok (head_front_at version payload) ≡ false → first_block_kept version kind payload ≡ None
front_refused version kind payload unread =
    either (kind == 10) (head_next version (whole head_at payload))
    (head_refused version (whole head_at payload) (λ h e same. true≢false (sym (head_front payload h e) ∙ ap (λ (v : ℕ). is_ok (head_front_at v payload)) same ∙ unread)))

-- as many bytes as stand before the lists tell whether those can be read
store_of : (rest : List ℕ) → 40 ≤ length rest → is_ok ((store_at then raw_at 32) rest) ≡ (nat_lt (from_be_bytes w64 (take 8 rest)) STORE_LIMIT && true)
unfolding store_at uint_at raw_at
store_of rest long =
    let eight : ltb (length rest) 8 ≡ false = le-ltb _ _ (omega arith) in
    let digest : ltb (length (drop 8 rest)) 32 ≡ false = le-ltb _ _ (omega (arith, length-drop 8 rest)) in
    let n = from_be_bytes w64 (take 8 rest) in
    let last : is_ok (raw_at 32 (drop 8 rest)) ≡ true = rw digest refl in
    rw eight (guarded (nat_lt n STORE_LIMIT) n (drop 8 rest) (length rest) (raw_at 32) ∙ ap (λ (t : Bool). nat_lt n STORE_LIMIT && t) last)

front_long : (version b : ℕ) (rest : List ℕ) → 40 ≤ length rest → is_ok (head_front_at version (b ∷ take 40 rest)) ≡ is_ok (head_front_at version (b ∷ rest))
front_long version b rest long =
    let same : is_ok ((store_at then raw_at 32) (take 40 rest)) ≡ is_ok ((store_at then raw_at 32) rest) =
    store_of (take 40 rest) (omega (arith, length-take 40 rest)) ∙ ap (λ (l : List ℕ). nat_lt (from_be_bytes w64 l) STORE_LIMIT && true) (take-take 8 40 rest (omega arith)) ∙ sym (store_of rest long) in
    front_of version b (take 40 rest) ∙ ap (λ (t : Bool). is_version b && ((b == version) && t)) same ∙ sym (front_of version b rest)

pub front_same : (version : ℕ) (payload : List ℕ) (n : ℕ) → n ≡ min (length payload) 41 → is_ok (head_front_at version (take n payload)) ≡ is_ok (head_front_at version payload)
front_same version payload n is = elim (cases_lt (length payload) 41) [ inl lt ↦ short lt | inr le ↦ long le ]
  where
    short : length payload < 41 → is_ok (head_front_at version (take n payload)) ≡ is_ok (head_front_at version payload)
    short lt = ap (λ (l : List ℕ). is_ok (head_front_at version l)) (take_all n payload (omega arith))

    parts : (bytes : List ℕ) → 41 ≤ length bytes → is_ok (head_front_at version (take 41 bytes)) ≡ is_ok (head_front_at version bytes)
    parts [] le = absurd (omega arith)
    parts (b ∷ rest) le = front_long version b rest (omega arith)

    long : 41 ≤ length payload → is_ok (head_front_at version (take n payload)) ≡ is_ok (head_front_at version payload)
    long le =
        let as_many : n ≡ 41 = omega arith in
        ap (λ (m : ℕ). is_ok (head_front_at version (take m payload))) as_many ∙ parts payload le

-- ---- the first byte of a Head is its version

begins : (h : Head) → (0 < length (head h)) × (get_or (head h) 0 0 ≡ h.version)
unfolding head
begins h = (omega arith, refl)

pub first_byte : (bytes : List ℕ) (h : Head) → IsBytes bytes → whole head_at bytes ≡ Ok h → (0 < length bytes) × (get_or bytes 0 0 ≡ h.version)
first_byte bytes h fits e =
    let is = (whole_takes head_at head IsHead head_is bytes h fits e).1 in
    let at = begins h in
    (omega (arith, ap length is, at.0), ap (λ (l : List ℕ). get_or l 0 0) is ∙ at.1)

abbrev begins_with : ℕ → List ℕ → Bool
begins_with version bytes = nat_lt 0 (length bytes) && (get_or bytes 0 0 == version)

-- bytes that don't begin with the version, or are none
pub other_version : (version : ℕ) (bytes : List ℕ) → IsBytes bytes → begins_with version bytes ≡ false → head_next version (whole head_at bytes) ≡ None
other_version version bytes fits other =
    head_refused version (whole head_at bytes) (λ h e same.
    let begin = first_byte bytes h fits e in
    let some = begin.0 in
    let is : get_or bytes 0 0 ≡ version = begin.1 ∙ same in
    let first : nat_lt 0 (length bytes) ≡ true = grind (arith, nat_tests, some) in
    let second : (get_or bytes 0 0 == version) ≡ true = grind (arith, nat_tests, is) in
    true≢false (sym (both_hold _ _ first second) ∙ other))
  where
    both_hold : (a b : Bool) → a ≡ true → b ≡ true → (a && b) ≡ true
    both_hold a b p q = rw (p, q) refl

pub this_version : (version : ℕ) (bytes : List ℕ) → begins_with version bytes ≡ true → get_or bytes 0 0 ≡ version
this_version version bytes is = eqb-true (get_or bytes 0 0) version (and_parts (nat_lt 0 (length bytes)) (get_or bytes 0 0 == version) is).1

-- a refusal for want of memory
pub memory_only : (error : CodecError) → unfit_of error ≡ unfit.Memory → error ≡ codec.Memory
memory_only codec.Memory e = refl
memory_only (codec.Form at) e = absurd cc
