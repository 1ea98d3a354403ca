mod CourseLemmas
mod KindLemmas
mod LineLemmas
