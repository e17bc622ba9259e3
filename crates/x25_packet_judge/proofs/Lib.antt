mod Names
mod ChannelsLemmas
mod TellingLemmas
mod BookLemmas
mod TapeLemmas
mod RestartLemmas
mod UnseenLemmas
mod NotedLemmas
