pub mod EchoIsGood
