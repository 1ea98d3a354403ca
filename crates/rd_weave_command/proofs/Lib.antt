mod RunLemmas
mod SpelledLemmas
mod WritingLemmas
