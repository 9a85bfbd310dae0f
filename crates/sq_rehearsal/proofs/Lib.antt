mod ItemLemmas
mod OpeningLemmas
mod PlainLemmas
mod QuestionLemmas
mod SchemaLemmas
mod ValidLemmas
mod WorkedExamples
