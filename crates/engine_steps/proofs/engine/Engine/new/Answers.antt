use Rattle.std.proofs.Common.{◌≡◌, List, ℕ, arith, filter, length, refl, sym, ◌∙◌, ap, subst, []}
use Rattle.std.proofs.lemmas.List.{length-map}
use Rattle.flowfile_record.specs.NamedFile.{NamedFile}
use Rattle.flowfile_record.specs.Stored.{Kept}
use Rattle.engine_queues.specs.Listing.{AreDistinct, Left, names_left}
use Rattle.engine_queues.specs.Queues.{AreQueuesOf}
use Rattle.engine_queues.proofs.Sources.{all-left}
use Rattle.engine_steps.specs.Engine.{AreTakeable}
use Rattle.engine_steps.specs.Flights.{given_back}
use Rattle.engine_steps.specs.Opening.{fits_in}
use Rattle.engine_steps.specs.declared.flight.InFlight.{InFlight}
use Rattle.engine_steps.proofs.Fitting.{ascending_differ, fitting_takeable}
use Rattle.engine_steps.proofs.engine.Engine.new.Goals as goal

pub new-requires-clause-distinct : goal.new-requires-clause-distinct
new-requires-clause-distinct g c = ascending_differ c.in_ok-coming.coming.items c.in_ok-coming.ensures.ascending

pub returns-clause-opened : goal.returns-clause-opened
returns-clause-opened g c = record {
  flow_is = refl;
  store_is = refl;
  queues = subst (λ (k : Kept). AreQueuesOf c.args.flow.now k [] c.in_ok-queues.queues) c.state.ensures.kept c.in_ok-queues.ensures;
  listing = ap (λ (l : Left). l.flow) c.in_ok-listing.ensures;
  distinct = subst AreDistinct (sym (ap (λ (l : Left). l.listed) c.in_ok-listing.ensures)) (ascending_differ c.in_ok-coming.coming.items c.in_ok-coming.ensures.ascending);
  journal = c.new-2.ensures.items;
  last = refl;
  since = refl;
  works = refl;
  tended = refl;
  out = c.new-3.ensures.items;
  next_session = refl;
  most_is = refl;
  checkpoint_is = refl;
}

pub returns-clause-listed : goal.returns-clause-listed
returns-clause-listed g c =
    let left : List NamedFile = g.I.Inbox.left c.args.inbox.now in
    let listed : List NamedFile = g.I.Inbox.left c.list.new.self in
    let names : List (List ℕ) = c.list.new.names.items in
    let is : names_left (given_back c.new-3.result.items c.in_ok-listing.listing) ≡ c.in_ok-coming.coming.items =
    ap (λ (out : List InFlight). names_left (given_back out c.in_ok-listing.listing)) c.new-3.ensures.items ∙ ap names_left c.in_ok-listing.ensures ∙ all-left c.in_ok-coming.coming.items in
    record {
      coming = λ told state standing.
          sym (is ∙ c.in_ok-coming.ensures.fit told ∙ ap (λ (l : List NamedFile). filter (fits_in l) names) c.list.ensures.left ∙ ap (filter (fits_in left)) (c.in_ok-list.ensures.listed told));
      takeable = λ told.
          let are = is ∙ c.in_ok-coming.ensures.fit told in
          subst (AreTakeable (g.I.Inbox.left c.names_that_fit.new.inbox)) (sym are)
          (subst (λ (l : List NamedFile). AreTakeable l (filter (fits_in listed) names)) (sym c.names_that_fit.ensures.left) (fitting_takeable listed names));
      counted = λ told.
          let many : length names ≡ length left = ap length (c.in_ok-list.ensures.listed told) ∙ length-map left (λ (file : NamedFile). file.name) in
          omega (arith, many, ap length is, ap (λ (l : Left). l.too_large) c.in_ok-listing.ensures, c.in_ok-coming.ensures.few);
    }
