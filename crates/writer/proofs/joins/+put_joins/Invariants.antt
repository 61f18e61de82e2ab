use Rattle.writer.proofs.joins.+put_joins.Given as goal

abbrev pub decreases-put_joins : goal.decreases-put_joins
decreases-put_joins l = l.set
