-- What holds of every session, and of a file that comes into it.
use Rattle.std.specs.Prelude.{◌≡◌, ℕ, ◌+◌, ◌<◌, ◌≤◌, true, false, All, length, map, IfSome}
use Rattle.flowfile_record.specs.Attributes.{AttributeMap, IsWithinLimits, encoded_size}
use Rattle.flowfile_record.specs.Outcome.{AreInTurn, NamesEachOnce, is_made, parents_of}
use Rattle.flowfile_record.specs.declared.attributes.TheConstants.{ATTRIBUTES_MAX}
use Rattle.flowfile_record.specs.declared.limits.TheConstants.{FILES_MAX, SESSION_ATTRIBUTES_MAX, TAKEN_MAX, WRITTEN_MAX}
use Rattle.flowfile_record.specs.declared.worked.Body.{Body}
use Rattle.flowfile_record.specs.declared.worked.End.{End}
use Rattle.flowfile_record.specs.declared.worked.End.TheVariants.{To, Back, Removed}
use Rattle.flowfile_record.specs.declared.worked.Origin.{Origin}
use Rattle.flowfile_record.specs.declared.worked.Worked.{Worked}
use Rattle.process_session.specs.declared.file.File.{File}
use Rattle.process_session.specs.Bench.{Bench, HasItsSize, IsBodyOf, attribute_size, bench_attributes, made_size, named_size}
use Rattle.process_session.specs.Finish.{worked_with}

-- an end that a file may have: only a taken one goes back
abbrev pub MayEnd : ℕ → Origin → End → Type 0
MayEnd relationships origin (To relationship) = relationship < relationships
MayEnd relationships origin Back = is_made origin ≡ false
MayEnd relationships origin Removed = Unit {0}

-- what holds of each file beside its body and its place, for a processor with so many relationships
pub record IsHeldFile (relationships : ℕ) (file : File) : Type 0 where
  pub names : NamesEachOnce file.origin
  pub ends : IfSome file.«end» (MayEnd relationships file.origin)
  pub routed : IfSome file.routed (λ relationship. relationship < relationships)
  pub limits : IsWithinLimits file.attributes
  pub named : named_size file.origin file.attributes ≤ ATTRIBUTES_MAX

-- a file as an outcome would have it, were no file left out
abbrev pub as_worked : File → Worked
as_worked file = worked_with file.origin file

-- what holds of every session; `counted` is the running sum of what its attributes take
pub record IsSoundBench (bench : Bench) (counted : ℕ) : Type 0 where
  pub summed : counted ≡ attribute_size bench
  pub attributes : counted ≤ SESSION_ATTRIBUTES_MAX
  pub handed : bench.handed ≤ WRITTEN_MAX
  pub few : length bench.files ≤ FILES_MAX
  pub taken : length bench.sources ≤ TAKEN_MAX
  pub whole : All (λ source. HasItsSize source.bytes source.size) bench.sources
  pub bodies : All (λ file. IsBodyOf bench.sources file.body) bench.files
  pub in_turn : AreInTurn 0 (length bench.sources) (map as_worked bench.files)
  pub each : All (IsHeldFile bench.relationships) bench.files

-- a made file that a session may come to, with so many handed bytes
pub record MayCome (bench : Bench) (origin : Origin) (attributes : AttributeMap) (body : Body) (handed : ℕ)
    : Type 0 where
  pub made : is_made origin ≡ true
  pub behind : All (λ parent. parent < length bench.files) (parents_of origin)
  pub names : NamesEachOnce origin
  pub inside : IsBodyOf bench.sources body
  pub named : named_size origin attributes ≤ ATTRIBUTES_MAX
  pub files : length bench.files + 1 ≤ FILES_MAX
  pub summed : attribute_size bench + encoded_size attributes ≤ SESSION_ATTRIBUTES_MAX
  pub room : bench.handed + handed ≤ WRITTEN_MAX

-- one more file may come with the attributes of the file at a place
pub record MayInherit (bench : Bench) (of : ℕ) : Type 0 where
  pub there : of < length bench.files
  pub named : made_size (bench_attributes bench of) ≤ ATTRIBUTES_MAX
  pub files : length bench.files + 1 ≤ FILES_MAX
  pub summed : attribute_size bench + encoded_size (bench_attributes bench of) ≤ SESSION_ATTRIBUTES_MAX
  pub room : bench.handed + 0 ≤ WRITTEN_MAX
