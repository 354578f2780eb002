mod CommandLemmas
mod FeedLemmas
