-- Groups: what is read is encoded so, and what is encoded so is read again.
use Rattle.std.proofs.Common.{◌≡◌, ℕ, ◌<◌, ◌≤◌, ◌^◌, cond, true, List, [], ◌∷◌, ◌++◌, length, IsTrue, Ok, Err, refl, sym, ap, subst, ◌∙◌, append_assoc, arith}
use Rattle.std.specs.Prelude.{nat_le, is_ok}
use Rattle.std.specs.List.{flat_map}
use Rattle.std.specs.Int.{w32, to_be_bytes}
use Rattle.std.proofs.lemmas.Bool.{le-leb, leb-true}
use Rattle.std.proofs.lemmas.Bool.Decides.{nat_tests}
use Rattle.std.proofs.lemmas.List.Concat.{flat_map-cons}
use Rattle.std.proofs.lemmas.List.Elements.{All-head}
use Rattle.flowfile_record.specs.Encoding.{byte, AreListed}
use Rattle.flowfile_record.specs.Field.{IsBytes, Takes, IsField}
use Rattle.flowfile_record.specs.Reading.{◌then◌, byte_at, raw_at, uint_at, items_at, listed_at}
use Rattle.flowfile_record.proofs.FieldLaws.{bind_ok, ok_is, guard_holds, Takes-then, pair_is, made_is, such_is, byte_is, raw_is, u32_is, listed_is}
use Rattle.record_codec.specs.Group.{item, group, is_item_kind, IsItem, IsGroup}
use Rattle.record_codec.specs.GroupReading.{payload_at, item_kind_at, item_at, several_at, group_at, first_item_at}
use Rattle.record_codec.specs.declared.group.Item.{Item}
use Rattle.record_codec.proofs.Fronts.{then_ok}

sized : List ℕ → List ℕ
sized payload = to_be_bytes w32 (length payload) ++ payload

payload_takes : (bytes : List ℕ) (x : List ℕ × List ℕ) → IsBytes bytes → payload_at bytes ≡ Ok x → Takes bytes (sized x.0) x.1 × (length x.0 < 2 ^ 32)
unfolding payload_at sized
payload_takes bytes x fits e =
    let a = bind_ok (uint_at w32 bytes) (λ size. raw_at size.0 size.1) x e in
    let size = u32_is.takes bytes a.0 fits a.1 in
    let payload = (raw_is a.0.0).takes a.0.1 x size.0.rest_fits a.2 in
    let both = Takes-then bytes (to_be_bytes w32 a.0.0) a.0.1 x.0 x.1 size.0 payload.0 in
    (subst (λ (n : ℕ). Takes bytes (to_be_bytes w32 n ++ x.0) x.1) (sym payload.1) both, subst (λ (n : ℕ). n < 2 ^ 32) (sym payload.1) size.1)

payload_again : (payload rest : List ℕ) → length payload < 2 ^ 32 → payload_at (sized payload ++ rest) ≡ Ok (payload, rest)
unfolding payload_at sized
payload_again payload rest lt =
    let regrouped : (to_be_bytes w32 (length payload) ++ payload) ++ rest ≡ to_be_bytes w32 (length payload) ++ (payload ++ rest) = append_assoc (to_be_bytes w32 (length payload)) payload rest in
    ap payload_at regrouped ∙ rw (u32_is.again (length payload) (payload ++ rest) lt, (raw_is (length payload)).again payload rest refl) refl

payload_is : IsField payload_at sized (λ payload. length payload < 2 ^ 32)
payload_is = record { takes = payload_takes; again = payload_again }

kind_is : IsField item_kind_at byte (λ kind. (kind < 2 ^ 8) × IsTrue (is_item_kind kind))
unfolding item_kind_at
kind_is = such_is is_item_kind byte_at byte (λ kind. kind < 2 ^ 8) byte_is

kind_below : (kind : ℕ) → is_item_kind kind ≡ true → kind < 2 ^ 8
kind_below kind is = grind (arith, nat_tests)

item_parts : Item → ℕ × List ℕ
item_parts i = (i.kind, i.payload)

pub item_is : IsField item_at item IsItem
unfolding item_at item item_parts sized
item_is =
    made_is (λ i. record { kind = i.0; payload = i.1 }) item_parts (item_kind_at then payload_at) _ item _ IsItem
    (pair_is item_kind_at payload_at byte sized (λ kind. (kind < 2 ^ 8) × IsTrue (is_item_kind kind)) (λ payload. length payload < 2 ^ 32) kind_is payload_is)
    (λ i. refl)
    (λ i. append_assoc (byte i.0) (to_be_bytes w32 (length i.1)) i.1)
    (λ i h. record { kind = h.0.1; payload = h.1 })
    (λ i h. ((kind_below i.kind h.kind, h.kind), h.payload))

items_are : IsField (listed_at item_at) (λ items. group items) (AreListed IsItem)
unfolding group
items_are = listed_is item_at item IsItem item_is

-- Several items are read as a list is.
as_list : (bytes : List ℕ) (count : ℕ × List ℕ) → uint_at w32 bytes ≡ Ok count → nat_le 2 count.0 ≡ true → group_at bytes ≡ listed_at item_at bytes
unfolding group_at several_at listed_at
as_list bytes count e several = rw (e, several) refl

-- the count of what was read, and that it is several
counted : (bytes : List ℕ) (x : List Item × List ℕ) → group_at bytes ≡ Ok x → (count : ℕ × List ℕ) × (uint_at w32 bytes ≡ Ok count) × (nat_le 2 count.0 ≡ true)
unfolding group_at several_at
counted bytes x e =
    let a = bind_ok (several_at bytes) (λ count. items_at item_at count.0 count.1) x e in
    let b = bind_ok (uint_at w32 bytes) (λ count. cond (nat_le 2 count.0) (Ok count) (Err (length bytes))) a.0 a.1 in
    (b.0, b.1, (guard_holds (nat_le 2 b.0.0) (length bytes) b.0 a.0 b.2).0)

-- what stands in front of a list is its count
count_first : (items : List Item) (rest : List ℕ) → length items < 2 ^ 32 → uint_at w32 (group items ++ rest) ≡ Ok (length items, flat_map item items ++ rest)
unfolding group
count_first items rest lt =
    ap (uint_at w32) (append_assoc (to_be_bytes w32 (length items)) (flat_map item items) rest) ∙ u32_is.again (length items) (flat_map item items ++ rest) lt

group_takes : (bytes : List ℕ) (x : List Item × List ℕ) → IsBytes bytes → group_at bytes ≡ Ok x → Takes bytes (group x.0) x.1 × IsGroup x.0
group_takes bytes x fits e =
    let c = counted bytes x e in
    let t = items_are.takes bytes x fits (sym (as_list bytes c.0 c.1 c.2) ∙ e) in
    let front = ap (uint_at w32) t.0.parts ∙ count_first x.0 x.1 t.1.0 in
    let same : c.0 ≡ (length x.0, flat_map item x.0 ++ x.1) = ok_is c.0 (length x.0, flat_map item x.0 ++ x.1) (sym c.1 ∙ front) in
    let several : 2 ≤ c.0.0 = leb-true 2 c.0.0 c.2 in
    (t.0, record { several = subst (λ (n : ℕ × List ℕ). 2 ≤ n.0) same several; each = t.1 })

group_again : (items : List Item) (rest : List ℕ) → IsGroup items → group_at (group items ++ rest) ≡ Ok (items, rest)
group_again items rest is =
    as_list (group items ++ rest) (length items, flat_map item items ++ rest) (count_first items rest is.each.0) (le-leb 2 (length items) is.several)
    ∙ items_are.again items rest is.each

pub group_is : IsField group_at group IsGroup
group_is = record { takes = group_takes; again = group_again }

-- ---- a group begins with its first item

several_first : (items : List Item) → IsGroup items → several_at (group items) ≡ Ok (length items, flat_map item items)
unfolding several_at group
several_first items is =
    let count : uint_at w32 (to_be_bytes w32 (length items) ++ flat_map item items) ≡ Ok (length items, flat_map item items) = u32_is.again (length items) (flat_map item items) is.each.0 in
    rw (count, le-leb 2 (length items) is.several) refl

pub begins_with_item : (items : List Item) → IsGroup items → is_ok (first_item_at (group items)) ≡ true
begins_with_item [] is = absurd (omega (arith, is.several))
begins_with_item (i ∷ items) is =
    let first : item_at (flat_map item (i ∷ items)) ≡ Ok (i, flat_map item items) =
    ap item_at (flat_map-cons item i items) ∙ item_is.again i (flat_map item items) (All-head IsItem i items is.each.1) in
    then_ok several_at item_at (group (i ∷ items)) _ _ (several_first (i ∷ items) is) (ap is_ok first)
