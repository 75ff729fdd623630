-- The numbers of files that expired: each stands once.
use Rattle.std.proofs.Common.{◌≡◌, ℕ, ◌<◌, ◌==◌, ◌&&◌, not, Bool, true, false, List, [], ◌∷◌, refl, ap, ◌∙◌, arith}
use Rattle.std.specs.Prelude.{All, filter}
use Rattle.std.proofs.lemmas.Bool.{ne_eqb}
use Rattle.std.proofs.lemmas.List.Elements.{All-head, All-tail}
use Rattle.flowfile_record.specs.NumberedItems.{AscendsByNumber}
use Rattle.machine_model.specs.declared.flow.QueueLimits.{QueueLimits}
use Rattle.machine_model.specs.Due.{expired_numbers}
use Rattle.machine_model.specs.Files.{are_distinct, is_number_among}
use Rattle.machine_model.specs.View.{FileView, is_expired}
use Rattle.flow_queue.specs.declared.held.Held.{Held}
use Rattle.flow_queue.specs.Picking.{expiring}
use Rattle.flow_queue.specs.Queue.{held_number, held_view, views_of}
use Rattle.flow_queue.proofs.Expiring.{expiring-ascends}
use Rattle.flow_queue.proofs.Numbered.{ascends-filter, ascends-map}

none-below : (n : ℕ) (numbers : List ℕ) → All (λ later. n < later) numbers → is_number_among numbers n ≡ false
none-below n [] above = refl
none-below n (m ∷ numbers) above =
    let lt : n < m = All-head (λ later. n < later) m numbers above in
    let no : (m == n) ≡ false = ne_eqb m n (λ e. omega arith) in
    rw no (none-below n numbers (All-tail (λ later. n < later) m numbers above))

ascending-distinct : (numbers : List ℕ) → AscendsByNumber (λ n. n) numbers → are_distinct numbers ≡ true
ascending-distinct [] up = refl
ascending-distinct (n ∷ numbers) up =
    ap (λ b. not b && are_distinct numbers) (none-below n numbers up.0) ∙ ascending-distinct numbers up.1

pub expired-distinct : (limits : QueueLimits) (moment : ℕ) (files : List Held) → AscendsByNumber held_number files → are_distinct (expired_numbers limits moment (views_of files)) ≡ true
expired-distinct limits moment files up =
    let number = λ (file : FileView). file.number in
    let rests : FileView → Bool = λ other. not other.in_flight in
    let views = ascends-map held_number number held_view (λ _. refl) files up in
    let kept = ascends-filter number (is_expired limits.expiration moment) (filter rests (views_of files)) (ascends-filter number rests (views_of files) views) in
    ap are_distinct (expiring-ascends limits moment files up) ∙ ascending-distinct (expiring limits moment (views_of files)) (ascends-map number (λ n. n) number (λ _. refl) _ kept)
