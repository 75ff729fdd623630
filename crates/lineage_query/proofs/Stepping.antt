-- One step of a walk: from the kin that events name to the kin that one file has by them, and back.
use Rattle.std.proofs.Common.{◌≡◌, ℕ, ◌==◌, Bool, true, false, cond, List, [], ◌∷◌, ◌⊎◌, inl, inr, refl, sym, ap, subst, ◌∙◌}
use Rattle.std.specs.Prelude.{map, Contains}
use Rattle.std.specs.List.{flat_map, list_any}
use Rattle.flowfile_record.specs.Kin.{pairs_of, pairs_by_kind, pairs_named}
use Rattle.flowfile_record.specs.declared.event.Event.{Event}
use Rattle.flowfile_record.specs.declared.event.EventKind.{EventKind}
use Rattle.flowfile_record.specs.declared.event.EventKind.TheVariants.{Create, Receive, Fork, Join, Clone, ContentModified, AttributesModified, Route, Send, Drop, Expire, Replay}
use Rattle.machine_model.specs.Lineage.{NamesParent}
use Rattle.lineage_query.specs.declared.kin.Way.{Way}
use Rattle.lineage_query.specs.declared.kin.Way.TheVariants.{Up, Down}
use Rattle.lineage_query.specs.Walk.{Leads, far_of, kin_towards, kin_in}
use Rattle.lineage_query.proofs.Members.{Among, from-contains, to-contains, in-map, from-map, in-flat_map, from-flat_map, in-any, from-any}

-- ---- each child with each parent

in-pairs : (child parent : ℕ) (parents children : List ℕ) → Among child children → Among parent parents → Among (child, parent) (pairs_of parents children)
in-pairs child parent parents children c p =
    in-flat_map (λ (c : ℕ). map (λ (p : ℕ). (c, p)) parents) child (child, parent) children c (in-map (λ (p : ℕ). (child, p)) parent parents p)

from-pairs : (child parent : ℕ) (parents children : List ℕ) → Among (child, parent) (pairs_of parents children) → Among child children × Among parent parents
from-pairs child parent parents children a =
    let by = from-flat_map (λ (c : ℕ). map (λ (p : ℕ). (c, p)) parents) (child, parent) children a in
    let pair = from-map (λ (p : ℕ). (by.0, p)) (child, parent) parents by.2 in
    let is_child : by.0 ≡ child = ap (λ (q : ℕ × ℕ). q.0) pair.2 in
    let is_parent : pair.0 ≡ parent = ap (λ (q : ℕ × ℕ). q.1) pair.2 in
    (subst (λ (n : ℕ). Among n children) is_child by.1, subst (λ (n : ℕ). Among n parents) is_parent pair.1)

-- ---- the far side, where a file is on the near one

abbrev far : ℕ → (near others : List ℕ) → List ℕ
far file near others = cond (list_any (λ n. n == file) near) others []

in-far : (file other : ℕ) (near others : List ℕ) → Among file near → Among other others → Among other (far file near others)
in-far file other near others here there = subst (λ (b : Bool). Among other (cond b others [])) (sym (in-any file near here)) there

from-far : (file other : ℕ) (near others : List ℕ) → Among other (far file near others) → Among file near × Among other others
from-far file other near others a =
    elim (list_any (λ n. n == file) near) as (λ b. list_any (λ n. n == file) near ≡ b → Among other (cond b others []) → Among file near × Among other others) [
      | true ↦ λ is h. (from-any file near is, h)
      | false ↦ λ _ h. absurd h
    ] refl a

-- ---- by kinds

abbrev Named : EventKind → (child parent : ℕ) → (parents children : List ℕ) → Type 0
Named kind child parent parents children = Among (child, parent) (pairs_by_kind kind parents children)

abbrev Far : EventKind → (file other : ℕ) → (near others : List ℕ) → Type 0
Far kind file other near others = Among other (far_of kind file near others)

up-far : (kind : EventKind) (child parent : ℕ) (parents children : List ℕ) → Named kind child parent parents children → Far kind child parent children parents
up-far Fork child parent parents children a = let both = from-pairs child parent parents children a in in-far child parent children parents both.0 both.1
up-far Join child parent parents children a = let both = from-pairs child parent parents children a in in-far child parent children parents both.0 both.1
up-far Clone child parent parents children a = let both = from-pairs child parent parents children a in in-far child parent children parents both.0 both.1
up-far Create child parent parents children a = absurd a
up-far Receive child parent parents children a = absurd a
up-far ContentModified child parent parents children a = absurd a
up-far AttributesModified child parent parents children a = absurd a
up-far Route child parent parents children a = absurd a
up-far Send child parent parents children a = absurd a
up-far Drop child parent parents children a = absurd a
up-far Expire child parent parents children a = absurd a
up-far Replay child parent parents children a = absurd a

far-up : (kind : EventKind) (child parent : ℕ) (parents children : List ℕ) → Far kind child parent children parents → Named kind child parent parents children
far-up Fork child parent parents children a = let both = from-far child parent children parents a in in-pairs child parent parents children both.0 both.1
far-up Join child parent parents children a = let both = from-far child parent children parents a in in-pairs child parent parents children both.0 both.1
far-up Clone child parent parents children a = let both = from-far child parent children parents a in in-pairs child parent parents children both.0 both.1
far-up Create child parent parents children a = absurd a
far-up Receive child parent parents children a = absurd a
far-up ContentModified child parent parents children a = absurd a
far-up AttributesModified child parent parents children a = absurd a
far-up Route child parent parents children a = absurd a
far-up Send child parent parents children a = absurd a
far-up Drop child parent parents children a = absurd a
far-up Expire child parent parents children a = absurd a
far-up Replay child parent parents children a = absurd a

-- the far sides of two files name each other
far-turned : (kind : EventKind) (a b : ℕ) (near others : List ℕ) → Far kind a b near others → Far kind b a others near
far-turned Fork a b near others h = let both = from-far a b near others h in in-far b a others near both.1 both.0
far-turned Join a b near others h = let both = from-far a b near others h in in-far b a others near both.1 both.0
far-turned Clone a b near others h = let both = from-far a b near others h in in-far b a others near both.1 both.0
far-turned Create a b near others h = absurd h
far-turned Receive a b near others h = absurd h
far-turned ContentModified a b near others h = absurd h
far-turned AttributesModified a b near others h = absurd h
far-turned Route a b near others h = absurd h
far-turned Send a b near others h = absurd h
far-turned Drop a b near others h = absurd h
far-turned Expire a b near others h = absurd h
far-turned Replay a b near others h = absurd h

-- who is named on the far side stands there, and the file on the near side
pub far-sides : (kind : EventKind) (file other : ℕ) (near others : List ℕ) → Far kind file other near others → Among file near × Among other others
far-sides Fork file other near others a = from-far file other near others a
far-sides Join file other near others a = from-far file other near others a
far-sides Clone file other near others a = from-far file other near others a
far-sides Create file other near others a = absurd a
far-sides Receive file other near others a = absurd a
far-sides ContentModified file other near others a = absurd a
far-sides AttributesModified file other near others a = absurd a
far-sides Route file other near others a = absurd a
far-sides Send file other near others a = absurd a
far-sides Drop file other near others a = absurd a
far-sides Expire file other near others a = absurd a
far-sides Replay file other near others a = absurd a

-- ---- a step

pub to-kin : (way : Way) (events : List Event) (file other : ℕ) → Leads way events file other → Among other (kin_in way events file)
to-kin Up events file other leads =
    let by = from-flat_map pairs_named (file, other) events (from-contains (file, other) (flat_map pairs_named events) leads) in
    let event : Event = by.0 in
    in-flat_map (kin_towards Up file) event other events by.1 (up-far event.kind file other event.parents event.children by.2)
to-kin Down events file other leads =
    let by = from-flat_map pairs_named (other, file) events (from-contains (other, file) (flat_map pairs_named events) leads) in
    let event : Event = by.0 in
    in-flat_map (kin_towards Down file) event other events by.1
    (far-turned event.kind other file event.children event.parents (up-far event.kind other file event.parents event.children by.2))

pub from-kin : (way : Way) (events : List Event) (file other : ℕ) → Among other (kin_in way events file) → Leads way events file other
from-kin Up events file other a =
    let by = from-flat_map (kin_towards Up file) other events a in
    let event : Event = by.0 in
    to-contains (file, other) (flat_map pairs_named events) (in-flat_map pairs_named event (file, other) events by.1 (far-up event.kind file other event.parents event.children by.2))
from-kin Down events file other a =
    let by = from-flat_map (kin_towards Down file) other events a in
    let event : Event = by.0 in
    to-contains (other, file) (flat_map pairs_named events)
    (in-flat_map pairs_named event (other, file) events by.1 (far-up event.kind other file event.parents event.children (far-turned event.kind file other event.parents event.children by.2)))
