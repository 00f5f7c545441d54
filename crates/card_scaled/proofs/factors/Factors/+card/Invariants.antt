use Rattle.card_scaled.proofs.factors.Factors.+card.Given as goal

abbrev pub decreases-card : goal.decreases-card
decreases-card l = l.s
