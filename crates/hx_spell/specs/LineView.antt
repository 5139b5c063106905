-- The private enum of src/line.rt as the definitions have it.
use Rattle.hx_spell.specs.declared.line.Keyword.TheVariants as code
use Rattle.hx_spell.specs.declared.line.Keyword.{Keyword as CodeKeyword}
use Rattle.hx_spell.specs.Lines.{Keyword}
use Rattle.hx_spell.specs.Lines.Keyword.{Frontend, Mode, Options, Ignored, Acl, HttpRequest}
use Rattle.hx_spell.specs.Lines.Keyword.{DefaultBackend, Redirect, UseBackend}

abbrev pub keyword_of : CodeKeyword → Keyword
keyword_of code.Frontend = Frontend
keyword_of code.Mode = Mode
keyword_of code.Options = Options
keyword_of code.Ignored = Ignored
keyword_of code.Acl = Acl
keyword_of code.HttpRequest = HttpRequest
keyword_of code.Redirect = Redirect
keyword_of code.UseBackend = UseBackend
keyword_of code.DefaultBackend = DefaultBackend
