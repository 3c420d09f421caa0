mod LineWalk
mod LineAnswers
