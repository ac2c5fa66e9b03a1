use Rattle.text_load.proofs.TextTotalityLemmas.{loaded-or-fault, job-or-refusal}
use Rattle.text_load.proofs.laws.texts_load_or_are_refused.Goals as goal

pub returns-clause-sentences : goal.returns-clause-sentences
returns-clause-sentences c = loaded-or-fault

pub returns-clause-job : goal.returns-clause-job
returns-clause-job c = job-or-refusal
