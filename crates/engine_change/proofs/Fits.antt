-- Events that have a block, but for their numbers, and where their texts are UTF-8.
use Rattle.std.proofs.Common.{ℕ, ◌+◌, ◌^◌, ◌<◌, ◌≤◌, List, [], ◌∷◌, length, arith}
use Rattle.flowfile_record.specs.Encoding.{AreNumbers, IsDigest, IsNumber}
use Rattle.flowfile_record.specs.declared.event.Event.{Event}
use Rattle.flowfile_record.specs.declared.limits.TheConstants.{FILES_MAX, NUMBER_LIMIT}
use Rattle.flowfile_record.specs.declared.name.TheConstants.{NAME_MAX}
use Rattle.machine_model.specs.declared.limits.TheConstants.{ID_MAX}
use Rattle.machine_model.specs.Events.{Draft, numbered_from}
use Rattle.machine_model.proofs.Drafted.{IsDraft}
use Rattle.machine_model.proofs.Tally.{Each}
use Rattle.prov_event.specs.Encoding.{IsEvent}
use Rattle.prov_event.proofs.Sizes.{event_size}
use Rattle.prov_store.specs.State.{HasBlock}
use Rattle.engine_change.specs.Committing.{HasTexts}
use Rattle.engine_change.proofs.Each.{all_from_each}

-- numbers of no more files than a session may have
pub record AreFew (numbers : List ℕ) : Type 0 where
  pub each : Each IsNumber numbers
  pub few : length numbers ≤ FILES_MAX

pub record Fits (e : Event) : Type 0 where
  pub moment : e.moment < 2 ^ 64
  pub component : length e.component ≤ ID_MAX
  pub first_file : 1 ≤ e.file
  pub file : IsNumber e.file
  pub parents : AreFew e.parents
  pub children : AreFew e.children
  pub detail : length e.detail ≤ NAME_MAX
  pub size : e.size < 2 ^ 64
  pub digest : IsDigest e.digest

-- under each number
abbrev pub FitsAsAny : Draft → Type 0
FitsAsAny draft = (n : ℕ) → Fits (draft.event n)

are_numbers : (numbers : List ℕ) → AreFew numbers → AreNumbers numbers
are_numbers numbers few = let count = few.few in (omega (arith, count), all_from_each IsNumber numbers few.each)

encoded : (e : Event) → Fits e → HasTexts e → 1 ≤ e.number → IsNumber e.number → IsEvent e
encoded e fits texts first number =
    let component = fits.component in
    let detail = fits.detail in
    record {
      first_number = first;
      number = number;
      moment = fits.moment;
      component = (omega (arith, component), texts.component);
      first_file = fits.first_file;
      file = fits.file;
      parents = are_numbers e.parents fits.parents;
      children = are_numbers e.children fits.children;
      detail = (omega (arith, detail), texts.detail);
      size = fits.size;
      digest = fits.digest;
    }

has_block : (e : Event) → Fits e → HasTexts e → 1 ≤ e.number → IsNumber e.number → HasBlock e
has_block e fits texts first number =
    let is = encoded e fits texts first number in
    record {
      encoded = is;
      payload = omega (arith, event_size e is, fits.component, fits.detail, fits.parents.few, fits.children.few);
    }

-- those that are numbered from one on have blocks where the last number is one
pub have_blocks : (first : ℕ) (drafts : List Draft) → 1 ≤ first → first + length drafts ≤ NUMBER_LIMIT → Each IsDraft drafts → Each FitsAsAny drafts
    → Each HasTexts (numbered_from first drafts) → Each HasBlock (numbered_from first drafts)
have_blocks first [] low high are fit texts = tt
have_blocks first (draft ∷ drafts) low high are fit texts =
    let number = are.0.number first in (
      has_block (draft.event first) (fit.0 first) texts.0 (omega (arith, number)) (omega (arith, number)),
      have_blocks (first + 1) drafts (omega arith) (omega arith) are.1 fit.1 texts.1,
    )
