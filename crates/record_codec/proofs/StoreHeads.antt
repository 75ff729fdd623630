-- What is read of a head is encoded so, and what is encoded so is read again.
use Rattle.std.proofs.Common.{◌≡◌, ◌≢◌, ℕ, ◌+◌, ◌%◌, ◌^◌, ◌<◌, ◌&&◌, ◌||◌, eqb, nat_lt, nat_le, Bool, true, false, cond, List, [], ◌++◌, length, IsTrue, Result, Ok, Err, refl, sym, ap, subst, ◌∙◌, append_assoc, length-append, arith}
use Rattle.std.specs.Prelude.{is_ok}
use Rattle.std.specs.Int.{w64, to_be_bytes}
use Rattle.std.proofs.lemmas.Bool.{ltb-true, lt-ltb, leb-true, le-leb, eqb-true, ne_eqb, and_parts}
use Rattle.std.proofs.lemmas.List.Elements.{All-nil}
use Rattle.flowfile_record.specs.Field.{IsBytes, Takes, IsField}
use Rattle.flowfile_record.specs.Reading.{Reading, ◌>>=◌, ◌then◌, such, raw_at, uint_at, number_at, text_at, numbers_at, first_at}
use Rattle.flowfile_record.specs.Encoding.{byte, text, numbers, IsNumber, IsText, AreNumbers, IsDigest}
use Rattle.flowfile_record.proofs.FieldLaws.{bind_ok, ok_is, Takes-then, such_is, said_is, digest_is, u64_is, number_is, text_is, listed_is, numbers_is}
use Rattle.flowfile_record.specs.declared.limits.TheConstants.{DIGEST_SIZE, STORE_LIMIT, EVENTS_PER_FILE}
use Rattle.record_codec.specs.declared.head.Head.{Head}
use Rattle.record_codec.specs.StoreHead.{head, in_second, IsHead, IsLineOf}
use Rattle.record_codec.specs.StoreHeadReading.{store_at, processors_at, line_at, head_at, connected_at, first_processor_at, first_count_at}
use Rattle.record_codec.specs.Version.{is_version, version_at}
use Rattle.record_codec.specs.declared.TheConstants.{FIRST_VERSION, SECOND_VERSION}
use Rattle.record_codec.proofs.Versions.{IsVersion, version_is}
use Rattle.record_codec.specs.Texts.{texts, AreTexts, texts_at}
use Rattle.record_codec.proofs.Fronts.{then_read}

store_is : IsField store_at (to_be_bytes w64) (λ n. n < STORE_LIMIT)
unfolding store_at
store_is = said_is store_at (to_be_bytes w64) (λ n. (n < 2 ^ 64) × IsTrue (nat_lt n STORE_LIMIT)) (λ n. n < STORE_LIMIT) (such_is (λ n. nat_lt n STORE_LIMIT) (uint_at w64) (to_be_bytes w64) (λ n. n < 2 ^ 64) u64_is)
    (λ n h. ltb-true n STORE_LIMIT h.1) (λ n h. (omega arith, lt-ltb n STORE_LIMIT h))

texts_is : IsField texts_at texts AreTexts
texts_is = listed_is text_at text IsText text_is

-- ---- fields of the second version alone

-- the second where the test holds, else the first
abbrev Either : Bool → Type 0 → Type 0 → Type 0
Either true First Second = Second
Either false First Second = First

field_if : {A : Type 0} (b : Bool) (value : A) (r : Reading A) (s : A → List ℕ) (F : A → Type 0) → IsField r s F
    → IsField (λ bytes. cond b (r bytes) (Ok (value, bytes))) (λ a. cond b (s a) []) (λ a. Either b (a ≡ value) (F a))
field_if true value r s F field = field
field_if {A = A} false value r s F field =
    record {
      takes = λ bytes x fits e.
          let is = ok_is (value, bytes) x e in
          subst (λ (y : A × List ℕ). Takes bytes [] y.1 × (y.0 ≡ value)) is (record { parts = refl; rest_fits = fits }, refl);
      again = λ a rest has. ap (λ (v : A). pair v rest) (sym has);
    }
  where
    pair : A → List ℕ → Result (A × List ℕ) ℕ
    pair v rest = Ok (v, rest)

abbrev HasIds : ℕ → List (List ℕ) → Type 0
HasIds version ps = Either (eqb version SECOND_VERSION) (ps ≡ []) (AreTexts ps)

processors_is : (version : ℕ) → IsField (processors_at version) (λ ps. in_second version (texts ps)) (HasIds version)
unfolding processors_at
processors_is version = field_if (eqb version SECOND_VERSION) [] texts_at texts AreTexts texts_is

abbrev is_line : ℕ → ℕ → Bool
is_line last line = eqb (line % EVENTS_PER_FILE) 0 && nat_le line last

-- a line that is at most a number fits eight bytes
line_field : (last : ℕ) → IsNumber last → IsField (such (is_line last) (uint_at w64)) (to_be_bytes w64) (IsLineOf last)
line_field last small =
    said_is (such (is_line last) (uint_at w64)) (to_be_bytes w64) (λ n. (n < 2 ^ 64) × IsTrue (is_line last n)) (IsLineOf last) (such_is (is_line last) (uint_at w64) (to_be_bytes w64) (λ n. n < 2 ^ 64) u64_is)
    (λ n h.
    let both = and_parts (eqb (n % EVENTS_PER_FILE) 0) (nat_le n last) h.1 in
    (eqb-true _ _ both.0, leb-true n last both.1))
    (λ n h. (omega (arith, h.1, small), is n h))
  where
    is : (n : ℕ) → IsLineOf last n → is_line last n ≡ true
    is n h = rw h.0 (le-leb n last h.1)

abbrev HasLine : ℕ → ℕ → ℕ → Type 0
HasLine version last line = Either (eqb version SECOND_VERSION) (line ≡ 0) (IsLineOf last line)

line_is : (version last : ℕ) → IsNumber last → IsField (line_at version last) (λ l. in_second version (to_be_bytes w64 l)) (HasLine version last)
unfolding line_at
line_is version last small = field_if (eqb version SECOND_VERSION) 0 (such (is_line last) (uint_at w64)) (to_be_bytes w64) (IsLineOf last) (line_field last small)

-- What is so in both versions, and what the first one asks besides.
in_both : {P Q : Type 0} (b : Bool) → (Q → P) → Either b Q P → P
in_both true other holds = holds
in_both false other holds = other holds

in_first : (P Q : Type 0) (version : ℕ) → Either (eqb version SECOND_VERSION) Q P → version ≡ FIRST_VERSION → Q
in_first P Q version holds first = subst (λ (v : ℕ). Either (eqb v SECOND_VERSION) Q P) first holds

by_version : {P Q : Type 0} (version : ℕ) → IsTrue (is_version version) → P → (version ≡ FIRST_VERSION → Q) → Either (eqb version SECOND_VERSION) Q P
by_version {P = P} {Q = Q} version known holds first = go (eqb version SECOND_VERSION) known
  where
    go : (b : Bool) → (eqb version FIRST_VERSION || b) ≡ true → Either b Q P
    go true known = holds
    go false known = first (eqb-true _ _ (none (eqb version FIRST_VERSION) known))
      where
        none : (a : Bool) → (a || false) ≡ true → a ≡ true
        none true e = refl
        none false e = e

-- ---- a head

-- the fields from the left, each before those behind it
regroup : (a b c d e f g h i j k rest : List ℕ) → (a ++ b ++ c ++ d ++ e ++ f ++ g ++ h ++ i ++ j ++ k) ++ rest
    ≡ a ++ (b ++ (c ++ (d ++ (e ++ (f ++ (g ++ (h ++ (i ++ (j ++ (k ++ rest))))))))))
regroup a b c d e f g h i j k rest = simp append_assoc

no_texts : (ps : List (List ℕ)) → ps ≡ [] → AreTexts ps
no_texts ps none = subst AreTexts (sym none) (omega arith, All-nil IsText)

no_line : (last line : ℕ) → line ≡ 0 → IsLineOf last line
no_line last line none = subst (IsLineOf last) (sym none) (refl, omega arith)

-- the fields of a head, each behind the one before
head_of_parts : (h : Head) (bytes r0 r1 r2 r3 r4 r5 r6 r7 r8 r9 rest : List ℕ) → Takes bytes (byte h.version) r0 → Takes r0 (to_be_bytes w64 h.store) r1 → Takes r1 h.flow r2 → Takes r2 (texts h.connections) r3
    → Takes r3 (in_second h.version (texts h.processors)) r4 → Takes r4 (numbers h.counts) r5 → Takes r5 (to_be_bytes w64 h.next_number) r6 → Takes r6 (to_be_bytes w64 h.next_arrival) r7
    → Takes r7 (to_be_bytes w64 h.last_event) r8 → Takes r8 (in_second h.version (to_be_bytes w64 h.line)) r9 → Takes r9 (to_be_bytes w64 h.next_batch) rest → Takes bytes (head h) rest
unfolding head
head_of_parts h bytes r0 r1 r2 r3 r4 r5 r6 r7 r8 r9 rest v s f c p n a b l m o =
    let front = Takes-then _ _ _ _ _ (Takes-then _ _ _ _ _ (Takes-then _ _ _ _ _ (Takes-then _ _ _ _ _ (Takes-then _ _ _ _ _ v s) f) c) p) n in
    Takes-then _ _ _ _ _ (Takes-then _ _ _ _ _ (Takes-then _ _ _ _ _ (Takes-then _ _ _ _ _ (Takes-then _ _ _ _ _ front a) b) l) m) o

-- a field that was read, for what follows it
read_on : {A B : Type 0} (first : Reading A) (s : A → List ℕ) (F : A → Type 0) (Goal : Type 0) (f : A × List ℕ → Result (B × List ℕ) ℕ) (bytes : List ℕ) (x : B × List ℕ) → IsField first s F → IsBytes bytes
    → (first bytes >>= f) ≡ Ok x → ((a : A) (rest : List ℕ) → Takes bytes (s a) rest → F a → f (a, rest) ≡ Ok x → Goal) → Goal
read_on first s F Goal f bytes x field fits e follows =
    let a = bind_ok (first bytes) f x e in
    let t = field.takes bytes a.0 fits a.1 in
    follows a.0.0 a.0.1 t.0 t.1 a.2

head_takes : (bytes : List ℕ) (x : Head × List ℕ) → IsBytes bytes → head_at bytes ≡ Ok x → Takes bytes (head x.0) x.1 × IsHead x.0
unfolding head_at
head_takes bytes x fits e =
    read_on version_at byte IsVersion Goal _ bytes x version_is fits e (λ version r0 tv hv e.
    read_on store_at (to_be_bytes w64) (λ n. n < STORE_LIMIT) Goal _ r0 x store_is tv.rest_fits e (λ store r1 ts hs e.
    read_on (raw_at DIGEST_SIZE) (λ a. a) IsDigest Goal _ r1 x digest_is ts.rest_fits e (λ flow r2 tf hf e.
    read_on texts_at texts AreTexts Goal _ r2 x texts_is tf.rest_fits e (λ connections r3 tc hc e.
    read_on (processors_at version) (λ ps. in_second version (texts ps)) (HasIds version) Goal _ r3 x (processors_is version) tc.rest_fits e (λ processors r4 tp hp e.
    read_on numbers_at numbers AreNumbers Goal _ r4 x numbers_is tp.rest_fits e (λ counts r5 tn hn e.
    read_on number_at (to_be_bytes w64) IsNumber Goal _ r5 x number_is tn.rest_fits e (λ next_number r6 ta ha e.
    read_on number_at (to_be_bytes w64) IsNumber Goal _ r6 x number_is ta.rest_fits e (λ next_arrival r7 tb hb e.
    read_on number_at (to_be_bytes w64) IsNumber Goal _ r7 x number_is tb.rest_fits e (λ last_event r8 tl hl e.
    read_on (line_at version last_event) (λ l. in_second version (to_be_bytes w64 l)) (HasLine version last_event) Goal _ r8 x (line_is version last_event hl) tl.rest_fits e (λ line r9 tm hm e.
    read_on number_at (to_be_bytes w64) IsNumber Goal _ r9 x number_is tm.rest_fits e (λ next_batch rest to ho e.
    let h : Head = record {
      version = version;
      store = store;
      flow = flow;
      connections = connections;
      processors = processors;
      counts = counts;
      next_number = next_number;
      next_arrival = next_arrival;
      last_event = last_event;
      line = line;
      next_batch = next_batch;
    } in
    let is : IsHead h = record {
      version = hv.1;
      store = hs;
      flow = hf;
      connections = hc;
      processors = in_both (eqb version SECOND_VERSION) (no_texts processors) hp;
      counts = hn;
      next_number = ha;
      next_arrival = hb;
      last_event = hl;
      line = in_both (eqb version SECOND_VERSION) (no_line last_event line) hm;
      next_batch = ho;
      first = λ first. (in_first (AreTexts processors) (processors ≡ []) version hp first, in_first (IsLineOf last_event line) (line ≡ 0) version hm first);
    } in
    subst (λ (y : Head × List ℕ). Takes bytes (head y.0) y.1 × IsHead y.0) (ok_is (h, rest) x e)
    (head_of_parts h bytes r0 r1 r2 r3 r4 r5 r6 r7 r8 r9 rest tv ts tf tc tp tn ta tb tl tm to, is))))))))))))
  where
    Goal : Type 0
    Goal = Takes bytes (head x.0) x.1 × IsHead x.0

-- a step that was read, and what follows it
goes_on : {A B : Type 0} {r : Result A ℕ} {a : A} {y : Result B ℕ} (f : A → Result B ℕ) → r ≡ Ok a → f a ≡ y → (r >>= f) ≡ y
goes_on {B = B} {r = r} f e next = ap (λ r. r >>= f) e ∙ next

small_version : (v : ℕ) → IsTrue (is_version v) → v < 2 ^ 8
small_version v known = go (eqb v FIRST_VERSION) (eqb v SECOND_VERSION) (λ e. eqb-true v FIRST_VERSION e) (λ e. eqb-true v SECOND_VERSION e) known
  where
    go : (a b : Bool) → (a ≡ true → v ≡ FIRST_VERSION) → (b ≡ true → v ≡ SECOND_VERSION) → (a || b) ≡ true → v < 2 ^ 8
    go true b one other e = omega (arith, one refl)
    go false true one other e = omega (arith, other refl)
    go false false one other e = absurd cc

head_again : (h : Head) (rest : List ℕ) → IsHead h → head_at (head h ++ rest) ≡ Ok (h, rest)
unfolding head head_at
head_again h rest has =
    ap head_at (regroup (byte h.version) (to_be_bytes w64 h.store) h.flow (texts h.connections) (in_second h.version (texts h.processors)) (numbers h.counts) (to_be_bytes w64 h.next_number) (to_be_bytes w64 h.next_arrival) (to_be_bytes w64 h.last_event) (in_second h.version (to_be_bytes w64 h.line)) (to_be_bytes w64 h.next_batch) rest)
    ∙ goes_on _ (version_is.again h.version _ (small_version h.version has.version, has.version))
    (goes_on _ (store_is.again h.store _ has.store) (goes_on _ (digest_is.again h.flow _ has.flow) (goes_on _ (texts_is.again h.connections _ has.connections)
    (goes_on _ ((processors_is h.version).again h.processors _ (by_version h.version has.version has.processors (λ e. (has.first e).0)))
    (goes_on _ (numbers_is.again h.counts _ has.counts) (goes_on _ (number_is.again h.next_number _ has.next_number) (goes_on _ (number_is.again h.next_arrival _ has.next_arrival)
    (goes_on _ (number_is.again h.last_event _ has.last_event)
    (goes_on _ ((line_is h.version h.last_event has.last_event).again h.line _ (by_version h.version has.version has.line (λ e. (has.first e).1)))
    (goes_on _ (number_is.again h.next_batch rest has.next_batch) refl))))))))))

pub head_is : IsField head_at head IsHead
head_is = record { takes = head_takes; again = head_again }

-- ---- a head that was written in two parts

regroup_parts : (out a b c d e f g h i j k : List ℕ) → (out ++ (a ++ b ++ c ++ d ++ e ++ f)) ++ (g ++ h ++ i ++ j ++ k) ≡ out ++ (a ++ b ++ c ++ d ++ e ++ f ++ g ++ h ++ i ++ j ++ k)
regroup_parts out a b c d e f g h i j k = simp append_assoc

pub head_written : (h : Head) (old now lists all : List ℕ) (connections processors : List (List ℕ)) (counts : List ℕ) → now ≡ old → connections ≡ h.connections → processors ≡ h.processors → counts ≡ h.counts
    → lists ≡ now ++ (byte h.version ++ to_be_bytes w64 h.store ++ h.flow ++ texts connections ++ in_second h.version (texts processors) ++ numbers counts)
    → all ≡ lists ++ (to_be_bytes w64 h.next_number ++ to_be_bytes w64 h.next_arrival ++ to_be_bytes w64 h.last_event ++ in_second h.version (to_be_bytes w64 h.line) ++ to_be_bytes w64 h.next_batch)
    → all ≡ old ++ head h
unfolding head
head_written h old now lists all connections processors counts same cs ps ns first second =
    let counters = to_be_bytes w64 h.next_number ++ to_be_bytes w64 h.next_arrival ++ to_be_bytes w64 h.last_event ++ in_second h.version (to_be_bytes w64 h.line) ++ to_be_bytes w64 h.next_batch in
    let front : List (List ℕ) → List (List ℕ) → List ℕ → List ℕ = λ c p n. byte h.version ++ to_be_bytes w64 h.store ++ h.flow ++ texts c ++ in_second h.version (texts p) ++ numbers n in
    second
    ∙ ap (λ (l : List ℕ). l ++ counters)
    (first ∙ ap (λ (o : List ℕ). o ++ front connections processors counts) same ∙ ap (λ (c : List (List ℕ)). old ++ front c processors counts) cs ∙ ap (λ (p : List (List ℕ)). old ++ front h.connections p counts) ps ∙ ap (λ (n : List ℕ). old ++ front h.connections h.processors n) ns)
    ∙ regroup_parts old (byte h.version) (to_be_bytes w64 h.store) h.flow (texts h.connections) (in_second h.version (texts h.processors)) (numbers h.counts) (to_be_bytes w64 h.next_number) (to_be_bytes w64 h.next_arrival) (to_be_bytes w64 h.last_event) (in_second h.version (to_be_bytes w64 h.line)) (to_be_bytes w64 h.next_batch)

-- ---- how many bytes a head has

lengths : (a b c d e f g h i j k : List ℕ) → length (a ++ b ++ c ++ d ++ e ++ f ++ g ++ h ++ i ++ j ++ k)
    ≡ length a + length b + length c + length d + length e + length f + length g + length h + length i + length j + length k
lengths a b c d e f g h i j k = simp length-append

second_size : (b : Bool) (field other : List ℕ) → length field ≡ length other → length (cond b field []) ≡ length (cond b other [])
second_size true field other same = same
second_size false field other same = refl

-- the line's field has one size
pub head_size : (h : Head) → IsDigest h.flow
    → length (head h) ≡ 73 + length (texts h.connections) + length (in_second h.version (texts h.processors)) + length (numbers h.counts) + length (in_second h.version (to_be_bytes w64 0))
unfolding head
head_size h digest =
    omega (
      arith,
      lengths (byte h.version) (to_be_bytes w64 h.store) h.flow (texts h.connections) (in_second h.version (texts h.processors)) (numbers h.counts) (to_be_bytes w64 h.next_number) (to_be_bytes w64 h.next_arrival) (to_be_bytes w64 h.last_event) (in_second h.version (to_be_bytes w64 h.line)) (to_be_bytes w64 h.next_batch),
      second_size (eqb h.version SECOND_VERSION) (to_be_bytes w64 h.line) (to_be_bytes w64 0) refl,
      digest,
    )

pub in_the_second : (version : ℕ) (field : List ℕ) → version ≡ SECOND_VERSION → length (in_second version field) ≡ length field
in_the_second version field second = ap (λ (v : ℕ). length (in_second v field)) second

pub not_in_another : (version : ℕ) (field : List ℕ) → version ≢ SECOND_VERSION → length (in_second version field) ≡ 0
not_in_another version field other = ap (λ (b : Bool). length (cond b field [])) (ne_eqb version SECOND_VERSION other)

pub line_size : (version line : ℕ) → length (in_second version (to_be_bytes w64 line)) ≡ length (in_second version (to_be_bytes w64 0))
line_size version line = second_size (eqb version SECOND_VERSION) (to_be_bytes w64 line) (to_be_bytes w64 0) refl

-- ---- where memory is taken

pub connected : (bytes r0 r1 r2 rest : List ℕ) (version store : ℕ) (flow : List ℕ) (connections : List (List ℕ)) → version_at bytes ≡ Ok (version, r0) → store_at r0 ≡ Ok (store, r1) → raw_at DIGEST_SIZE r1 ≡ Ok (flow, r2) → texts_at r2 ≡ Ok (connections, rest)
    → connected_at bytes ≡ Ok ((version, (store, (flow, connections))), rest)
connected bytes r0 r1 r2 rest version store flow connections v s f c =
    then_read version_at (store_at then raw_at DIGEST_SIZE then texts_at) bytes r0 rest version (store, (flow, connections)) v
    (then_read store_at (raw_at DIGEST_SIZE then texts_at) r0 r1 rest store (flow, connections) s (then_read (raw_at DIGEST_SIZE) texts_at r1 r2 rest flow connections f c))

abbrev Connected : Type 0
Connected = ℕ × (ℕ × (List ℕ × List (List ℕ)))

pub at_processors : (bytes rest : List ℕ) (front : Connected) → connected_at bytes ≡ Ok (front, rest) → front.0 ≡ SECOND_VERSION → is_ok (first_at text_at rest) ≡ true → is_ok (first_processor_at bytes) ≡ true
at_processors bytes rest front read second first =
    let tested : eqb front.0 SECOND_VERSION ≡ true = ap (λ (v : ℕ). eqb v SECOND_VERSION) second in
    ap (λ (r : Result (Connected × List ℕ) ℕ). is_ok (r >>= behind)) read ∙ ap (λ (b : Bool). is_ok (cond b (first_at text_at rest) (none rest))) tested ∙ first
  where
    none : List ℕ → Result (List ℕ × List ℕ) ℕ
    none rest = Err (length rest)

    behind : Connected × List ℕ → Result (List ℕ × List ℕ) ℕ
    behind x = cond (eqb x.0.0 SECOND_VERSION) (first_at text_at x.1) (none x.1)

pub at_counts : (bytes rest after : List ℕ) (front : Connected) (processors : List (List ℕ)) → connected_at bytes ≡ Ok (front, rest) → processors_at front.0 rest ≡ Ok (processors, after) → is_ok (first_at number_at after) ≡ true
    → is_ok (first_count_at bytes) ≡ true
at_counts bytes rest after front processors read ids first =
    ap (λ (r : Result (Connected × List ℕ) ℕ). is_ok (r >>= λ x. processors_at x.0.0 x.1 >>= λ y. first_at number_at y.1)) read
    ∙ ap (λ (r : Result (List (List ℕ) × List ℕ) ℕ). is_ok (r >>= λ y. first_at number_at y.1)) ids ∙ first

-- ---- what stands before the lists of a head that is read

step_on : {A B : Type 0} (r : Result A ℕ) (f : A → Result B ℕ) (y : B) (Goal : Type 0) → (r >>= f) ≡ Ok y → ((a : A) → r ≡ Ok a → f a ≡ Ok y → Goal) → Goal
step_on (Ok a) f y Goal e follows = follows a refl e
step_on (Err left) f y Goal e follows = absurd cc

pub record HasFront (bytes : List ℕ) (version : ℕ) : Type 0 where
  pub rest : List ℕ
  pub version_read : version_at bytes ≡ Ok (version, rest)
  pub store : ℕ × List ℕ
  pub store_read : store_at rest ≡ Ok store
  pub flow : List ℕ × List ℕ
  pub flow_read : raw_at DIGEST_SIZE store.1 ≡ Ok flow

pub front_of_head : (bytes : List ℕ) (x : Head × List ℕ) → head_at bytes ≡ Ok x → HasFront bytes x.0.version
unfolding head_at
front_of_head bytes x e =
    step_on (version_at bytes) _ x Goal e (λ version ve e.
    step_on (store_at version.1) _ x Goal e (λ store se e.
    step_on (raw_at DIGEST_SIZE store.1) _ x Goal e (λ flow fe e.
    step_on (texts_at flow.1) _ x Goal e (λ connections ce e.
    step_on (processors_at version.0 connections.1) _ x Goal e (λ processors pe e.
    step_on (numbers_at processors.1) _ x Goal e (λ counts ne e.
    step_on (number_at counts.1) _ x Goal e (λ next_number ae e.
    step_on (number_at next_number.1) _ x Goal e (λ next_arrival be e.
    step_on (number_at next_arrival.1) _ x Goal e (λ last_event le e.
    step_on (line_at version.0 last_event.0 last_event.1) _ x Goal e (λ line me e.
    step_on (number_at line.1) _ x Goal e (λ next_batch oe e.
    let same : version.0 ≡ x.0.version = ap (λ (y : Head × List ℕ). y.0.version) (ok_is _ x e) in
    record {
      rest = version.1;
      version_read = ve ∙ ap (λ (v : ℕ). ok_with v version.1) same;
      store = store;
      store_read = se;
      flow = flow;
      flow_read = fe;
    })))))))))))
  where
    Goal : Type 0
    Goal = HasFront bytes x.0.version

    ok_with : ℕ → List ℕ → Result (ℕ × List ℕ) ℕ
    ok_with v rest = Ok (v, rest)
