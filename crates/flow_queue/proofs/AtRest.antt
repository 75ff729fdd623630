-- What a queue answers with are numbers of its files that no session works on.
use Rattle.std.proofs.Common.{◌≡◌, ℕ, ◌<◌, ◌&&◌, not, Bool, true, false, List, [], ◌∷◌, length, get_or, Option, Some, None, refl, sym, ap, ◌∙◌, subst, arith}
use Rattle.std.specs.Prelude.{All, Contains, IfSome, MatchOption}
use Rattle.std.specs.Option.{option_map}
use Rattle.std.proofs.lemmas.Bool.{true≢false}
use Rattle.std.proofs.lemmas.List.{get_or-map, get_or_default, length-map}
use Rattle.flowfile_record.specs.NumberedItems.{AscendsByNumber}
use Rattle.prioritizer.specs.declared.prioritizer.Prioritizer.{Prioritizer}
use Rattle.machine_model.specs.declared.flow.QueueLimits.{QueueLimits}
use Rattle.machine_model.specs.View.{FileView}
use Rattle.machine_model.specs.Laws.{IsBest}
use Rattle.machine_model.specs.Order.{is_eligible, best}
use Rattle.machine_model.proofs.Ordered.{best-first}
use Rattle.flow_queue.specs.declared.held.Held.{Held}
use Rattle.flow_queue.specs.Queue.{held_number, held_view, views_of, flight_of}
use Rattle.flow_queue.proofs.Numbered.{item_of-at}

pub flight-at : (files : List Held) (place : ℕ) (held : Held) → AscendsByNumber held_number files → place < length files → held ≡ get_or files place held → flight_of (held_number held) files ≡ Some held.in_flight
flight-at files place held up within read =
    ap (option_map (λ (h : Held). h.in_flight))
    (item_of-at held_number files place (held_number held) held up within (λ d. ap held_number (get_or_default files place d held within ∙ sym read)) ∙ ap (λ (h : Held). Some h) (sym read))

pub seen-at : (files : List Held) (view : FileView) → AscendsByNumber held_number files → Contains (views_of files) view → flight_of view.number files ≡ Some view.in_flight
seen-at [] view up (place, within, is) = absurd (omega arith)
seen-at (first ∷ files) view up (place, within, is) =
    let all = first ∷ files in
    let long : place < length all = omega (arith, length-map all held_view) in
    let held = get_or all place first in
    let same : held_view held ≡ view = sym (get_or-map held_view all place first view long) ∙ is in
    subst (λ (v : FileView). flight_of v.number all ≡ Some v.in_flight) same (flight-at all place held up long (get_or_default all place first held long))

pub resting : (a b c : Bool) → ((not a && b) && c) ≡ true → a ≡ false
resting true b c h = absurd (true≢false (sym h))
resting false b c h = refl

best_rests : (order : List Prioritizer) (limits : QueueLimits) (moment : ℕ) (files : List Held) (found : Option FileView) → AscendsByNumber held_number files
    → MatchOption found (All (λ file. is_eligible limits moment file ≡ false) (views_of files)) (IsBest order limits moment (views_of files))
    → IfSome found (λ view. flight_of view.number files ≡ Some false)
best_rests order limits moment files None up none = tt
best_rests order limits moment files (Some view) up is_best =
    seen-at files view up is_best.stands_there ∙ ap (λ (b : Bool). Some b) (resting view.in_flight _ _ is_best.eligible)

pub best-rests : (order : List Prioritizer) (limits : QueueLimits) (moment : ℕ) (files : List Held) (view : FileView) → AscendsByNumber held_number files → Some view ≡ best order limits moment (views_of files)
    → flight_of view.number files ≡ Some false
best-rests order limits moment files view up is =
    subst (λ found. IfSome found (λ v. flight_of v.number files ≡ Some false)) (sym is) (best_rests order limits moment files _ up (best-first order limits moment (views_of files)))
