use Rattle.std.proofs.Common.{◌≡◌, ℕ, List, [], ◌∷◌, ◌++◌, None, refl, sym, ap, ◌∙◌, subst, rules}
use Rattle.world_io.specs.Memory.{Indexes}
use Rattle.world_io.proofs.Indexing.{indexed-set}
use Rattle.world_io.proofs.Places.{Stored}
use Rattle.world_io.proofs.Standing.{seen, put-in-place, once-in-place, put-behind, once-behind}
use Rattle.world_io.proofs.memory.outbox.put_file.Goals as goal

-- the file stands behind those that stood there
longer : (c : goal.After-push_reserved) → c.push_reserved.new.self.items ≡ c.args.files.now.items ++ (c.in_ok-clone-in-None.field-0, c.in_ok-copy.copy) ∷ []
longer c = c.push_reserved.ensures.items ∙ ap (λ (l : List Stored). l ++ (c.in_ok-clone-in-None.field-0, c.in_ok-copy.copy) ∷ []) c.in_ok-reserve-in-None.ensures.items

pub returns-in-Some-clause-put : goal.returns-in-Some-clause-put
returns-in-Some-clause-put c =
    let old = c.index_mut-file.result.now in
    put-in-place c.args.name.now c.args.bytes.now c.args.files.now.items _ c.place_among.result c.in-Some.place old (old.0, c.in_ok-copy.copy) c.deref.ensures.value c.place_among.ensures c.in-Some.is c.index_mut-file.ensures.value refl c.in_ok-copy.ensures.items

pub returns-in-Some-clause-once : goal.returns-in-Some-clause-once
returns-in-Some-clause-once c =
    let old = c.index_mut-file.result.now in
    once-in-place c.args.files.now.items c.in-Some.place old (old.0, c.in_ok-copy.copy) c.index_mut-file.ensures.value refl c.requires.once

pub returns-in-Some-clause-places : goal.returns-in-Some-clause-places
returns-in-Some-clause-places c =
    let old = c.index_mut-file.result.now in
    indexed-set c.args.places.now c.args.files.now.items c.in-Some.place old (old.0, c.in_ok-copy.copy) c.index_mut-file.ensures.value refl c.requires.places

pub returns-in_ok-note_place-in-None-clause-put : goal.returns-in_ok-note_place-in-None-clause-put
returns-in_ok-note_place-in-None-clause-put c =
    put-behind c.args.name.now c.args.bytes.now c.args.files.now.items _ c.push_reserved.new.self.items c.place_among.result (c.in_ok-clone-in-None.field-0, c.in_ok-copy.copy) c.deref.ensures.value c.place_among.ensures c.in-None.is
    (longer c) c.in_ok-clone-in-None.ensures.cases c.in_ok-copy.ensures.items

pub returns-in_ok-note_place-in-None-clause-once : goal.returns-in_ok-note_place-in-None-clause-once
returns-in_ok-note_place-in-None-clause-once c =
    once-behind c.args.name.now c.args.files.now.items _ c.push_reserved.new.self.items c.place_among.result (c.in_ok-clone-in-None.field-0, c.in_ok-copy.copy) c.deref.ensures.value c.place_among.ensures c.in-None.is
    (longer c) c.in_ok-clone-in-None.ensures.cases c.requires.once

pub returns-in_ok-note_place-in-None-clause-places : goal.returns-in_ok-note_place-in-None-clause-places
returns-in_ok-note_place-in-None-clause-places c =
    let files = c.args.files.now.items in
    let indexed : List Stored → Type 0 = λ l. Indexes c.note_place.new.places l in
    let file : List ℕ → List Stored = λ name. files ++ (name, c.in_ok-copy.copy) ∷ [] in
    subst indexed (sym (longer c ∙ ap file c.in_ok-clone-in-None.ensures.cases))
    (c.in_ok-note_place-in-None.ensures.ok files c.in_ok-copy.copy c.requires.places (search rules)
    (seen c.args.name.now files _ c.place_among.result None c.deref.ensures.value c.place_among.ensures c.in-None.is))
