-- What the receiver of a call is told of its caller (WebExtensions "runtime.MessageSender").
use Rattle.std.specs.Prelude.{ℕ, List, ◌++◌, codes, Some, None}
use Rattle.wx_context.specs.declared.contexts.Context.{Context}
use Rattle.wx_context.specs.declared.contexts.Context.TheVariants.{Page, Content, Web}
use Rattle.wx_context.specs.declared.senders.Sender.{Sender}

-- the URL of an extension's page: `chrome-extension://`, the id and the path
abbrev pub page_url : List ℕ → List ℕ → List ℕ
page_url ext path = codes "chrome-extension://" ++ (ext ++ path)

-- a page has no tab, and a web page no extension
abbrev pub sender_of : Context → Sender
sender_of (Page ext path) = record { ext = Some ext; tab = None; url = page_url ext path }
sender_of (Content ext tab frame url) = record { ext = Some ext; tab = Some (tab, frame); url = url }
sender_of (Web tab frame url) = record { ext = None; tab = Some (tab, frame); url = url }
