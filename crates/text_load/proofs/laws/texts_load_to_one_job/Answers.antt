use Rattle.text_load.proofs.UniqueLoadLemmas.{one_job, no_fault, one_refusal}
use Rattle.text_load.proofs.laws.texts_load_to_one_job.Goals as goal

pub returns-clause-one : goal.returns-clause-one
returns-clause-one c = one_job

pub returns-clause-none : goal.returns-clause-none
returns-clause-none c = no_fault

pub returns-clause-refused : goal.returns-clause-refused
returns-clause-refused c = one_refusal
