use Rattle.std.proofs.Common.{◌≡◌, ℕ, List, length, take, Some, sym, ap, subst, ◌∙◌, arith}
use Rattle.std.specs.Prelude.{slice_range}
use Rattle.disk_trait.specs.Files.{Files}
use Rattle.record_codec.specs.Block.{Whole, reading_of, answer_at}
use Rattle.record_codec.proofs.Heads.{same_reading}
use Rattle.block_file.specs.Address.{bytes_at}
use Rattle.block_file.proofs.Refusals.{found_start, read_refused}
use Rattle.block_file.proofs.read.read_block_at.Goals as goal

pub returns-in-Ok-clause-block : goal.returns-in-Ok-clause-block
returns-in-Ok-clause-block g c =
    let address = c.args.address in
    let rest = bytes_at (g.D.Disk.held c.args.disk.now) address in
    let n = c.in_ok-size.size in
    let block = c.in-Ok.block in
    let bytes = c.as_slice.result.now in
    let within = c.in-Ok.ensures.within in
    let start = found_start block (reading_of bytes) block.kind (slice_range bytes block.start block.end) c.in-Ok.ensures.read c.in-Ok.ensures.whole in
    record {
      read = λ told.
          let same = ap (λ (f : Files). take n (bytes_at f address)) c.in_ok-size.ensures.stays.files in
          let held : c.read_bytes.new.buffer.items ≡ take n rest = c.in_ok-read_bytes.ensures.bytes told ∙ same in
          let read = subst (λ (l : List ℕ). reading_of l ≡ Whole block.kind (slice_range l block.start block.end)) c.as_slice.ensures.value c.in-Ok.ensures.whole in
          sym (same_reading n rest (c.in_ok-size.ensures.whole told)) ∙ ap reading_of (sym held) ∙ read;
      lies = record {
        start = start;
        payload = within.0;
        longest = omega (arith, start, within.1, within.2, c.in_ok-read_bytes.ensures.len, ap length c.as_slice.ensures.value, c.in_ok-size.ensures.fits.2);
        digest = within.1;
        buffered = omega (arith, within.2, c.as_slice.ensures.len, c.in_ok-read_bytes.ensures.len, ap length c.as_slice.ensures.value);
        filed = omega (arith, within.2, c.in_ok-read_bytes.ensures.len, ap length c.as_slice.ensures.value, c.in_ok-size.ensures.fits.1);
      };
    }

pub returns-in-Err-clause-refusal : goal.returns-in-Err-clause-refusal
returns-in-Err-clause-refusal g c = record {
  damaged = λ damage is told.
      let address = c.args.address in
      let rest = bytes_at (g.D.Disk.held c.args.disk.now) address in
      let n = c.in_ok-size.size in
      let held = ap (λ (f : Files). take n (bytes_at f address)) c.in_ok-size.ensures.stays.files in
      let bytes : c.as_slice.result.now ≡ take n rest = c.as_slice.ensures.value ∙ c.in_ok-read_bytes.ensures.bytes told ∙ held in
      let reading = ap reading_of bytes ∙ same_reading n rest (c.in_ok-size.ensures.whole told) in
      let same : c.damage_of.result ≡ damage = cc is in
      read_refused address.file address.at (reading_of rest) c.in-Err.end (c.in-Err.ensures.read ∙ ap (answer_at 0) reading) ∙ ap Some (sym c.damage_of.ensures ∙ same);
  memory = λ is. absurd (cc is);
  room = λ is. absurd (cc is);
}
