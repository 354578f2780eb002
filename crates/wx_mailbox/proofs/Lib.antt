pub mod MailboxesLater
