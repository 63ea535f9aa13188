use Rattle.ct_field.proofs.write.+push_last_short.Given as goal

abbrev pub decreases-push_last_short : goal.decreases-push_last_short
decreases-push_last_short l = l.digits
