-- Demand 3 holds.
-- Assumes nothing.
use Rattle.delivery.specs.Demands.{Demand3}
use Rattle.polls.proofs.Polled.{polled-numbered, polled_outputs}
use Rattle.delivery.proofs.Delivery.{delivers, begins, by_arrivals, fates_come, by_fates, always, independent}
use Rattle.delivery.proofs.Together.{in_order, in_order-always}

pub demand3 : Demand3
demand3 =
    record {
      written_by_polls = polled_outputs;
      numbered = polled-numbered;
      delivers = delivers;
      begins = begins;
      by_arrivals = by_arrivals;
      fates_come = fates_come;
      by_fates = by_fates;
      in_order = in_order;
      always = λ calls fates n. ((λ s. always calls fates s n), in_order-always calls fates n);
      independent = independent;
    }
