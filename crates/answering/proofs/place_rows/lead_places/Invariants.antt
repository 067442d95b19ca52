-- `lead_places` meets its contract. The loop's invariant: the places before p have their words.
use Rattle.answering.specs.PlaceRows.{LeadPlaces}
use Rattle.answering.proofs.place_rows.lead_places.Given as goal

abbrev pub invariant-loop-p : goal.invariant-loop-p
invariant-loop-p l = LeadPlaces l.follow l.accepting l.p l.leads
