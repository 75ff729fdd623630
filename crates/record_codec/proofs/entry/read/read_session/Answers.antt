use Rattle.std.proofs.Common.{◌≡◌, ℕ, ◌||◌, Bool, true, List, ap, Ok, Err}
use Rattle.std.proofs.lemmas.Result.{err_from_is_err_and}
use Rattle.std.specs.Prelude.{is_ok}
use Rattle.std.specs.Int.{w16, w64}
use Rattle.flowfile_record.specs.Reading.{Reading, ◌then◌, uint_at, number_at, numbers_at, first_at}
use Rattle.flowfile_record.specs.declared.fields.fault.FieldError.TheVariants.{Memory}
use Rattle.record_codec.specs.ActiveFile.{active_file_at, active_front_at}
use Rattle.record_codec.proofs.Fronts.{then_ok, or_left, or_right, or_each}
use Rattle.record_codec.proofs.entry.read.read_session.Goals as goal

-- what is read behind a session's list of what is gone
behind_gone : {A : Type 0} (bytes : List ℕ) (processor : ℕ × List ℕ) (moment : ℕ × List ℕ) (gone : List ℕ × List ℕ) (more : Reading A)
    → uint_at w16 bytes ≡ Ok processor → uint_at w64 processor.1 ≡ Ok moment → numbers_at moment.1 ≡ Ok gone → is_ok (more gone.1) ≡ true
    → is_ok ((uint_at w16 then uint_at w64 then numbers_at then more) bytes) ≡ true
behind_gone bytes processor moment gone more p m g e =
    then_ok (uint_at w16) (uint_at w64 then numbers_at then more) bytes processor.0 processor.1 p
    (then_ok (uint_at w64) (numbers_at then more) processor.1 moment.0 moment.1 m
    (then_ok numbers_at more moment.1 gone.0 gone.1 g e))

-- memory for what is gone, for a first placed file's attributes, and for its place
gone_takes : List ℕ → Bool
gone_takes bytes = is_ok ((uint_at w16 then uint_at w64 then first_at number_at) bytes)

front_takes : List ℕ → Bool
front_takes bytes = is_ok ((uint_at w16 then uint_at w64 then numbers_at then first_at active_front_at) bytes)

file_takes : List ℕ → Bool
file_takes bytes = is_ok ((uint_at w16 then uint_at w64 then numbers_at then first_at active_file_at) bytes)

pub returns-in_err-gone-clause-memory : goal.returns-in_err-gone-clause-memory
unfolding gone_takes front_takes file_takes
returns-in_err-gone-clause-memory c memory =
    let p = err_from_is_err_and c.from_residual-in_err-gone.result c.from_residual-in_err-gone.ensures.1 in
    let same : c.in_err-gone.field-0.0 ≡ Memory = cc (p.1, p.2, memory) in
    let first = c.in_err-gone.ensures.memory (ap Err same) in
    let bytes = c.args.bytes.now in
    or_left (gone_takes bytes || front_takes bytes) (file_takes bytes) (or_left (gone_takes bytes) (front_takes bytes)
    (then_ok (uint_at w16) (uint_at w64 then first_at number_at) bytes _ _ c.in_ok-processor.ensures (then_ok (uint_at w64) (first_at number_at) c.in_ok-processor.rest.now _ _ c.in_ok-moment.ensures first)))

pub returns-in_err-placed-clause-memory : goal.returns-in_err-placed-clause-memory
unfolding gone_takes front_takes file_takes
returns-in_err-placed-clause-memory c memory =
    let p = err_from_is_err_and c.from_residual-in_err-placed.result c.from_residual-in_err-placed.ensures.1 in
    let same : c.in_err-placed.field-0.0 ≡ Memory = cc (p.1, p.2, memory) in
    let first = c.in_err-placed.ensures.memory (ap Err same) in
    let bytes = c.args.bytes.now in
    or_each (is_ok (first_at active_front_at c.in_ok-gone.rest.now)) (is_ok (first_at active_file_at c.in_ok-gone.rest.now))
    {c = gone_takes bytes || front_takes bytes} {d = file_takes bytes}
    (λ e. or_right (gone_takes bytes) (front_takes bytes) (behind_gone bytes _ _ _ (first_at active_front_at) c.in_ok-processor.ensures c.in_ok-moment.ensures c.in_ok-gone.ensures.read e))
    (λ e. behind_gone bytes _ _ _ (first_at active_file_at) c.in_ok-processor.ensures c.in_ok-moment.ensures c.in_ok-gone.ensures.read e)
    first
