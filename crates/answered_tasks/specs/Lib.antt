pub mod AnsweredTasks
