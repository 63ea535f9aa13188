use Rattle.ct_change.proofs.laws.Meanings.{means_fold, fold_means}
use Rattle.ct_change.proofs.promises.valid_changelog_means_its_fold.Goals as goal

pub returns-clause-fold : goal.returns-clause-fold
returns-clause-fold c = means_fold

pub returns-clause-only : goal.returns-clause-only
returns-clause-only c = fold_means
