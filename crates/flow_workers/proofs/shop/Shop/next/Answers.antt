use Rattle.flow_workers.proofs.shop.Shop.next.Goals as goal

pub returns-in-Job : goal.returns-in-Job
returns-in-Job g c = c.turn.ensures.job c.in-Job.job c.in-Job.is
