-- Which command the words behind the program's name are.
use Rattle.std.specs.Prelude.{◌≡◌, ℕ, ◌≤◌, Bool, true, List, [], ◌∷◌, Option, Some, None, Result, Ok, Err, option_map, option_and_then, if◌then◌else◌, codes, bytes_eq}
use Rattle.std.specs.List.{filter_map, list_all, list_any}
use Rattle.uuid.specs.Text.{parsed}
use Rattle.flow_words.specs.declared.command.Command.{Command}
use Rattle.flow_words.specs.declared.command.Command.TheVariants.{Run, Trial, Lineage, Content, Queues, Events, Check}
use Rattle.flow_words.specs.declared.command.RunOptions.{RunOptions}
use Rattle.flow_words.specs.declared.command.TheConstants.{DEFAULT_THREADS, THREADS_MAX, DEFAULT_COMMITS, COMMITS_MAX, DEFAULT_CHECKPOINT, CHECKPOINT_MAX, TRIAL_MAX}
use Rattle.flow_words.specs.declared.error.WordsError.{WordsError}
use Rattle.flow_words.specs.declared.error.WordsError.TheVariants.{Usage, Memory}
use Rattle.flow_words.specs.Arguments.{Argument, Named, Positional, Text, arguments_of}
use Rattle.flow_words.specs.Numbers.{number_between}

infixl 10 ◌>>=◌
abbrev pub ◌>>=◌ : {A B : Type 0} → Option A → (A → Option B) → Option B
o >>= f = option_and_then f o

-- the values of an option, and the words that are no option or value of one
abbrev pub value_named : Text → Argument → Option Text
value_named name (Named other value) = if bytes_eq other name then Some value else None
value_named name (Positional word) = None

abbrev pub positional_in : Argument → Option Text
positional_in (Named name value) = None
positional_in (Positional word) = Some word

-- none or one; no answer where there are more
abbrev pub at_most_one : List Text → Option (Option Text)
at_most_one [] = Some None
at_most_one (text ∷ []) = Some (Some text)
at_most_one (text ∷ next ∷ rest) = None

abbrev pub value_of_option : Text → List Argument → Option (Option Text)
value_of_option name arguments = at_most_one (filter_map (value_named name) arguments)

abbrev pub positional_of : List Argument → Option (Option Text)
positional_of arguments = at_most_one (filter_map positional_in arguments)

-- the number that is given, from 1 on, or the default
abbrev pub number_or : ℕ → ℕ → Option Text → Option ℕ
number_or default most None = Some default
number_or default most (Some text) = number_between 1 most text

abbrev pub setting : Text → ℕ → ℕ → List Argument → Option ℕ
setting name default most arguments = value_of_option name arguments >>= number_or default most

abbrev pub threads_of : List Argument → Option ℕ
threads_of = setting (codes "threads") DEFAULT_THREADS THREADS_MAX

abbrev pub max_commits_of : List Argument → Option ℕ
max_commits_of = setting (codes "max-commits") DEFAULT_COMMITS COMMITS_MAX

abbrev pub checkpoint_of : List Argument → Option ℕ
checkpoint_of = setting (codes "checkpoint") DEFAULT_CHECKPOINT CHECKPOINT_MAX

-- what is read of the one positional, and of none
abbrev pub of_one : {A : Type 0} → (Text → Option A) → Option Text → Option A
of_one read None = None
of_one read (Some text) = read text

abbrev pub of_none : {A : Type 0} → A → Option Text → Option A
of_none answer None = Some answer
of_none answer (Some text) = None

-- an answer only where each option is one of these
abbrev pub is_named_among : List Text → Argument → Bool
is_named_among names (Named name value) = list_any (λ other. bytes_eq other name) names
is_named_among names (Positional word) = true

abbrev pub knowing : {A : Type 0} → List Text → List Argument → Option A → Option A
knowing names arguments answer = if list_all (is_named_among names) arguments then answer else None

-- `run`
abbrev pub options_of : List Argument → Option RunOptions
options_of arguments = threads_of arguments >>= λ threads. max_commits_of arguments >>= λ max_commits.
    checkpoint_of arguments >>= λ checkpoint.
    Some (record { threads = threads; max_commits = max_commits; checkpoint = checkpoint })

abbrev pub run_of : List Argument → Option Command
run_of arguments = knowing (codes "threads" ∷ codes "max-commits" ∷ codes "checkpoint" ∷ []) arguments
    (options_of arguments >>= λ options. positional_of arguments >>= of_none (Run options))

-- `trial N`
abbrev pub trial_of : List Argument → Option Command
trial_of arguments = knowing (codes "threads" ∷ []) arguments
    (threads_of arguments >>= λ threads. positional_of arguments >>= of_one (number_between 1 TRIAL_MAX)
    >>= λ count. Some (Trial count threads))

-- a command with a UUID, and one with nothing
abbrev pub uuid_of : List Argument → Option (List ℕ)
uuid_of arguments = knowing [] arguments (positional_of arguments >>= of_one parsed)

abbrev pub bare_command : Command → List Argument → Option Command
bare_command command arguments = knowing [] arguments (positional_of arguments >>= of_none command)

abbrev pub command_of : Text → List Argument → Option Command
command_of name arguments =
    if bytes_eq name (codes "run") then run_of arguments
    else if bytes_eq name (codes "trial") then trial_of arguments
    else if bytes_eq name (codes "lineage") then option_map Lineage (uuid_of arguments)
    else if bytes_eq name (codes "content") then option_map Content (uuid_of arguments)
    else if bytes_eq name (codes "queues") then bare_command Queues arguments
    else if bytes_eq name (codes "events") then bare_command Events arguments
    else if bytes_eq name (codes "check") then bare_command Check arguments
    else None

-- the first word is the command
unfoldable pub words_of : List Text → Option Command
words_of [] = None
words_of (name ∷ rest) = arguments_of rest >>= command_of name

-- the numbers with which a flow is run, or tried, stand in their ranges
pub record AreInRange (options : RunOptions) : Type 0 where
  pub threads : (1 ≤ options.threads) × (options.threads ≤ THREADS_MAX)
  pub max_commits : (1 ≤ options.max_commits) × (options.max_commits ≤ COMMITS_MAX)
  pub checkpoint : (1 ≤ options.checkpoint) × (options.checkpoint ≤ CHECKPOINT_MAX)

abbrev pub IsInRange : Command → Type 0
IsInRange (Run options) = AreInRange options
IsInRange (Trial count threads) = (1 ≤ count) × (count ≤ TRIAL_MAX) × (1 ≤ threads) × (threads ≤ THREADS_MAX)
IsInRange command = Unit {0}

-- what is read is what the words are, and what is refused is nothing, unless memory ran out
abbrev pub ReadsWords : {X Y : Type 0} → (X → Y) → Result X WordsError → Option Y → Type 0
ReadsWords view (Ok x) meaning = meaning ≡ Some (view x)
ReadsWords view (Err Usage) meaning = meaning ≡ None
ReadsWords view (Err Memory) meaning = Unit {0}
