use Rattle.std.proofs.Common.{rules, ◌≡◌, ◌≢◌, ◌+◌, ◌-◌, ℕ, List, take, drop, Some, sym, ap, ◌∙◌, arith}
use Rattle.std.proofs.lemmas.List.{drop-drop}
use Rattle.disk_trait.specs.Files.{Files}
use Rattle.disk_trait.specs.declared.damage.Damage.TheVariants.{Digest}
use Rattle.sha2.specs.Sha256.{sha256}
use Rattle.block_file.specs.Damage.{damage_in}
use Rattle.block_file.proofs.Digests.{stored_in, body_in, differs, whole}
use Rattle.block_file.proofs.read.compare_digests.Goals as goal

pub returns-then-ne-clause-damaged : goal.returns-then-ne-clause-damaged
returns-then-ne-clause-damaged g c damage is told =
    let address = c.args.address in
    let n = c.args.size in
    let file = g.D.Disk.held c.args.disk.now address.file in
    let bytes = drop address.offset file in
    let stored : c.read.new.into ≡ stored_in n bytes =
    c.in_ok-read.ensures.bytes told ∙ ap (λ (f : Files). take 32 (drop (address.offset + (n - 32)) (f address.file))) c.in_ok-found.ensures.stays.files
    ∙ ap (take 32) (sym (drop-drop (n - 32) address.offset file)) in
    let size : address.offset + (n - 32) - (address.offset + 4) ≡ n - 36 = omega (arith, c.requires.fits) in
    let found : c.in_ok-found.found ≡ sha256 (body_in n bytes) =
    c.in_ok-found.ensures.digest told ∙ ap (λ (k : ℕ). sha256 (take k (drop (address.offset + 4) file))) size
    ∙ ap (λ (l : List ℕ). sha256 (take (n - 36) l)) (sym (drop-drop 4 address.offset file)) in
    let other : c.read.new.into ≢ c.in_ok-found.found = search rules in
    let same : Digest address.file address.at c.read.new.into c.in_ok-found.found ≡ damage = cc is in
    ap (damage_in address.file address.at) (differs n bytes (c.requires.head told) c.read.new.into c.in_ok-found.found stored found other) ∙ ap Some same

pub returns-clause-whole : goal.returns-clause-whole
returns-clause-whole g c told =
    let address = c.args.address in
    let n = c.args.size in
    let file = g.D.Disk.held c.args.disk.now address.file in
    let bytes = drop address.offset file in
    let stored : c.read.new.into ≡ stored_in n bytes =
    c.in_ok-read.ensures.bytes told ∙ ap (λ (f : Files). take 32 (drop (address.offset + (n - 32)) (f address.file))) c.in_ok-found.ensures.stays.files
    ∙ ap (take 32) (sym (drop-drop (n - 32) address.offset file)) in
    let size : address.offset + (n - 32) - (address.offset + 4) ≡ n - 36 = omega (arith, c.requires.fits) in
    let found : c.in_ok-found.found ≡ sha256 (body_in n bytes) =
    c.in_ok-found.ensures.digest told ∙ ap (λ (k : ℕ). sha256 (take k (drop (address.offset + 4) file))) size
    ∙ ap (λ (l : List ℕ). sha256 (take (n - 36) l)) (sym (drop-drop 4 address.offset file)) in
    let same : c.read.new.into ≡ c.in_ok-found.found = search rules in
    whole n bytes (c.requires.head told) c.read.new.into c.in_ok-found.found stored found same
